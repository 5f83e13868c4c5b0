-- Laws of lists in parts, of a test that every part passes, and of what the parts are mapped to, joined. Assumes nothing.
use mathlib.Core.Path.{◌≡◌, refl, ap}
use mathlib.Core.Bool.{Bool, true, and-eq-true_iff}
use mathlib.Core.List.{List, [], ◌∷◌, ◌++◌, map, flat_map, append_assoc}
use Prim.Native.Nat.{ℕ, zero, suc, ◌+◌, ◌*◌, ◌≤◌, ◌<◌}
use native.Mathlib.Nat.{mul-zero, mul-suc, le_of_suc-le-suc, not-suc-le-zero}
use native.Mathlib.Omega.{arith}
use lib.ListN.{length, take, drop, length-append, length-take, length-drop}
use lib.Seq.{drop-drop, drop-append-add, take_at, drop_at}
use Rattle.sheet.specs.Sheet.{parts, all_pass}

pub length_parts : (k n : ℕ) (xs : List ℕ) → length (parts k n xs) ≡ n
unfolding parts
length_parts k zero xs = refl
length_parts k (suc n) xs = ap suc (length_parts k n (drop k xs))

pub pass_map : (p : List ℕ → Bool) (g : List ℕ → List ℕ) (xs : List (List ℕ)) → all_pass p (map g xs) ≡ all_pass (λ x. p (g x)) xs
unfolding all_pass
pass_map p g [] = refl
pass_map p g (x ∷ xs) = rw (pass_map p g xs)

pub pass_both : (p q : List ℕ → Bool) → ((x : List ℕ) → p x ≡ true → q x ≡ true) → (xs : List (List ℕ)) → all_pass p xs ≡ true → all_pass q xs ≡ true
unfolding all_pass
pass_both p q e [] h = refl
pass_both p q e (x ∷ xs) h =
    let b = (and-eq-true_iff (p x) (all_pass p xs)).0 h in
    rw (e x b.0, pass_both p q e xs b.1)

-- a map that undoes another on each that passes
pub map_back : (f g : List ℕ → List ℕ) (p : List ℕ → Bool) → ((x : List ℕ) → p x ≡ true → f (g x) ≡ x) → (xs : List (List ℕ)) → all_pass p xs ≡ true → map f (map g xs) ≡ xs
unfolding all_pass
map_back f g p e [] h = refl
map_back f g p e (x ∷ xs) h =
    let b = (and-eq-true_iff (p x) (all_pass p xs)).0 h in
    rw (e x b.0, map_back f g p e xs b.1)

-- where every part passes, the part at i does
pub pass_at : (p : List ℕ → Bool) (k n i : ℕ) (xs : List ℕ) → all_pass p (parts k n xs) ≡ true → i < n → p (take k (drop (k * i) xs)) ≡ true
unfolding all_pass parts
pass_at p k zero i xs e h = absurd (not-suc-le-zero h)
pass_at p k (suc n) zero xs e h = rw mul-zero ((and-eq-true_iff (p (take k xs)) (all_pass p (parts k n (drop k xs)))).0 e).0
pass_at p k (suc n) (suc i) xs e h =
    let r = pass_at p k n i (drop k xs) ((and-eq-true_iff (p (take k xs)) (all_pass p (parts k n (drop k xs)))).0 e).1 (le_of_suc-le-suc h) in
    let q : k * suc i ≡ k + k * i = rw mul-suc (omega arith) in
    rw (q, ← drop-drop (k * i) k xs) r

-- what the part at i is mapped to, among what all are, each m long, with anything after it
pub flat_at : (F : List ℕ → List ℕ) (m : ℕ) → ((w : List ℕ) → length (F w) ≡ m) → (k n i : ℕ) (xs end : List ℕ) → i < n →
    take m (drop (m * i) (flat_map F (parts k n xs) ++ end)) ≡ F (take k (drop (k * i) xs))
unfolding flat_map parts
flat_at F m e k zero i xs end h = absurd (not-suc-le-zero h)
flat_at F m e k (suc n) zero xs end h = rw (mul-zero, mul-zero, append_assoc) (take_at (F (take k xs)) (flat_map F (parts k n (drop k xs)) ++ end) m (e (take k xs)))
flat_at F m e k (suc n) (suc i) xs end h =
    let r = flat_at F m e k n i (drop k xs) end (le_of_suc-le-suc h) in
    let p : m * suc i ≡ length (F (take k xs)) + m * i = rw (mul-suc, e (take k xs)) (omega arith) in
    let q : k * suc i ≡ k + k * i = rw mul-suc (omega arith) in
    rw (p, q, append_assoc, drop-append-add, ← drop-drop (k * i) k xs) r

pub flat_map_lem : (f g : List ℕ → List ℕ) (xs : List (List ℕ)) → flat_map f (map g xs) ≡ flat_map (λ x. f (g x)) xs
unfolding flat_map
flat_map_lem f g [] = refl
flat_map_lem f g (x ∷ xs) = rw (flat_map_lem f g xs)

-- lists of one length k each, joined: how long they are together, and their parts
module _ (k : ℕ) (g : List ℕ → List ℕ) (p : List ℕ → Bool) (e : (x : List ℕ) → p x ≡ true → length (g x) ≡ k) where
  pub length_flat : (xs : List (List ℕ)) → all_pass p xs ≡ true → length (flat_map g xs) ≡ k * length xs
  unfolding flat_map all_pass
  length_flat [] h = rw mul-zero
  length_flat (x ∷ xs) h =
      let b = (and-eq-true_iff (p x) (all_pass p xs)).0 h in
      rw (length-append, e x b.0, length_flat xs b.1, mul-suc) (omega arith)

  pub parts_flat : (xs : List (List ℕ)) → all_pass p xs ≡ true → parts k (length xs) (flat_map g xs) ≡ map g xs
  unfolding flat_map all_pass parts
  parts_flat [] h = refl
  parts_flat (x ∷ xs) h =
      let b = (and-eq-true_iff (p x) (all_pass p xs)).0 h in
      let n = e x b.0 in
      rw (take_at (g x) (flat_map g xs) k n, drop_at (g x) (flat_map g xs) k n, parts_flat xs b.1)

pub pass_all : (xs : List (List ℕ)) → all_pass (λ _. true) xs ≡ true
unfolding all_pass
pass_all [] = refl
pass_all (x ∷ xs) = pass_all xs

-- what holds of each part that is k long
pub parts_same : (k : ℕ) (g h : List ℕ → List ℕ) → ((x : List ℕ) → length x ≡ k → g x ≡ h x) → (n : ℕ) (xs : List ℕ) → k * n ≤ length xs →
    flat_map g (parts k n xs) ≡ flat_map h (parts k n xs)
unfolding flat_map parts
parts_same k g h e zero xs r = refl
parts_same k g h e (suc n) xs r =
    let m : k * suc n ≡ k * n + k = mul-suc k n in
    rw (e (take k xs) (rw length-take (omega arith)), parts_same k g h e n (drop k xs) (rw length-drop (omega arith)))
