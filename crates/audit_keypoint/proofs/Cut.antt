-- A list of equal parts cut again: the parts of joined lists of one length, a fold over one part more, and what a fold keeps. Assumes nothing.
use mathlib.Core.Path.{◌≡◌, refl, sym, ap, ◌∙◌}
use mathlib.Core.List.{List, [], ◌∷◌, ◌++◌, map, flat_map, foldl, append_assoc}
use Prim.Native.Nat.{ℕ, zero, suc, ◌+◌, ◌*◌}
use native.Mathlib.Nat.{add-zero, mul-zero, mul-suc}
use native.Mathlib.Numerals.{add-one}
use native.Mathlib.Omega.{arith}
use lib.ListN.{length, take, drop}
use lib.Seq.{drop-drop, take_at, drop_at}
use Rattle.sheet.specs.Sheet.{parts}

-- lists of k elements each, joined, with anything after them
pub parts_front {ℓ} : {A : Type ℓ} (k : ℕ) (f : A → List ℕ) → ((x : A) → length (f x) ≡ k) → (xs : List A) (rest : List ℕ) → parts k (length xs) (flat_map f xs ++ rest) ≡ map f xs
unfolding parts flat_map
parts_front k f e [] rest = refl
parts_front k f e (x ∷ xs) rest =
    rw (append_assoc, take_at (f x) (flat_map f xs ++ rest) k (e x), drop_at (f x) (flat_map f xs ++ rest) k (e x), parts_front k f e xs rest)

-- the same of any function that joins them
pub parts_joined {ℓ} : {A : Type ℓ} (k : ℕ) (f : A → List ℕ) → ((x : A) → length (f x) ≡ k) → (w : List A → List ℕ) → ((xs : List A) → w xs ≡ flat_map f xs) → (xs : List A) (rest : List ℕ) →
    parts k (length xs) (w xs ++ rest) ≡ map f xs
parts_joined k f e w j xs rest = ap (λ (ws : List ℕ). parts k (length xs) (ws ++ rest)) (j xs) ∙ parts_front k f e xs rest

fold_suc {ℓ} : {S : Type ℓ} (f : S → List ℕ → S) (st : S) (k n : ℕ) (ws : List ℕ) → foldl f st (parts k (suc n) ws) ≡ f (foldl f st (parts k n ws)) (take k (drop (k * n) ws))
unfolding parts
fold_suc f st k zero ws = rw mul-zero
fold_suc f st k (suc n) ws =
    let m : k * suc n ≡ k + k * n = rw mul-suc (omega arith) in
    fold_suc f (f st (take k ws)) k n (drop k ws) ∙ rw (m, drop-drop (k * n) k ws)

-- one part more
pub fold_next {ℓ} : {S : Type ℓ} (f : S → List ℕ → S) (st : S) (k n : ℕ) (ws : List ℕ) → foldl f st (parts k (n + 1) ws) ≡ f (foldl f st (parts k n ws)) (take k (drop (k * n) ws))
fold_next f st k n ws = rw add-one (fold_suc f st k n ws)

-- of none
pub fold_none {ℓ} : {S : Type ℓ} (f : S → List ℕ → S) (st : S) (k : ℕ) (ws : List ℕ) → foldl f st (parts k 0 ws) ≡ st
unfolding parts
fold_none f st k ws = refl

-- once a fold has come to what no part changes, it stays there
pub fold_settled {ℓ} : {S : Type ℓ} (f : S → List ℕ → S) (st x : S) → ((w : List ℕ) → f x w ≡ x) → (k i d : ℕ) (ws : List ℕ) → x ≡ foldl f st (parts k i ws) → x ≡ foldl f st (parts k (i + d) ws)
fold_settled f st x still k i zero ws e = rw add-zero e
fold_settled f st x still k i (suc d) ws e =
    let m : i + suc d ≡ i + d + 1 = omega arith in
    rw (m, fold_next f st k (i + d) ws, ← fold_settled f st x still k i d ws e) (sym (still (take k (drop (k * (i + d)) ws))))

-- what each step keeps, a fold keeps
pub fold_keeps {ℓ} : {S : Type 0} {A : Type ℓ} (P : S → Type 0) (f : S → A → S) → ((s : S) (x : A) → P s → P (f s x)) → (s : S) (xs : List A) → P s → P (foldl f s xs)
fold_keeps P f keeps s [] p = p
fold_keeps P f keeps s (x ∷ xs) p = fold_keeps P f keeps (f s x) xs (keeps s x p)
