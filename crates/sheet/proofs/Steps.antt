-- One turn of each loop, as a law of lists. Assumes nothing.
use mathlib.Core.Path.{◌≡◌, refl, sym, ap, ◌∙◌}
use mathlib.Core.Bool.{Bool, true, false, ◌&&◌, and-false}
use mathlib.Core.List.{List, [], ◌∷◌, ◌++◌, flat_map}
use Prim.Native.Nat.{ℕ, zero, suc, ◌+◌, ◌-◌, ◌*◌, ◌/◌, ◌%◌, ◌≤◌, ◌<◌}
use native.Mathlib.Nat.{add-zero, not-suc-le-zero, mul-zero, mul-suc, mul-add, mul-le-mul_left, sub-zero}
use native.Mathlib.Numerals.{add-one}
use native.Mathlib.Omega.{arith}
use borrow.Author.Tests.{le-leb, lt-leb, ne_eqb}
use lib.Dec.{leb, eqb, leb-zero}
use lib.ListN.{length, get_or, set, take, drop, replicate, length-append, length-take, length-drop, length-set, drop_of_length-le}
use lib.Seq.{drop-cons, drop-drop}
use Rattle.std.specs.List.{list_all}
use Rattle.lists.specs.Pasted.{pasted}
use Rattle.lists.proofs.Pasted.{pasted_none, pasted_append, pasted_cons, pasted_snoc}
use Rattle.sheet.specs.Pack.{slot, bytes, sound}
use Rattle.sheet.specs.Sheet.{parts, all_pass}
use Rattle.sheet.specs.Words.{all_zero}
use Rattle.sheet.proofs.Packed.{length_bytes, bytes_none}
use Rattle.sheet.proofs.Parts.{length_parts, length_flat, pass_all}

put_suc : (at i m : ℕ) (d : List ℕ) → at + suc i ≤ length d → pasted at (bytes i (m / 256)) (set d (at + i) (m % 256)) ≡ pasted at (bytes (suc i) m) d
unfolding bytes
put_suc at i m d h =
    let e = length_bytes i (m / 256) in
    let g : at + length (bytes i (m / 256)) < length d = rw e (omega arith) in
    ap (λ (j : ℕ). pasted at (bytes i (m / 256)) (set d (at + j) (m % 256))) (sym e) ∙ sym (pasted_snoc at (m % 256) (bytes i (m / 256)) d g)

pub put_turn : (at i m : ℕ) (d : List ℕ) → 0 < i → at + i ≤ length d →
    pasted at (bytes (i - 1) (m / 256)) (set d (at + (i - 1)) (m % 256)) ≡ pasted at (bytes i m) d
put_turn at zero m d p h = absurd (not-suc-le-zero p)
put_turn at (suc i) m d p h =
    let e : suc i - 1 ≡ i = omega arith in
    rw e (put_suc at i m d h)

pub put_end : (at m i : ℕ) (d : List ℕ) → i ≤ 0 → pasted at (bytes i m) d ≡ d
put_end at m i d h =
    let e : i ≡ 0 = omega arith in
    rw (e, bytes_none m, pasted_none)

drop_next : (xs : List ℕ) (i : ℕ) → i < length xs → drop i xs ≡ get_or xs i 0 ∷ drop (i + 1) xs
drop_next xs i h = rw (add-one, drop-cons xs i 0 h)

-- a copy, one element at a time
pub copy_next : (i at : ℕ) (xs d : List ℕ) → i < length xs → at + length xs ≤ length d →
    pasted (at + (i + 1)) (drop (i + 1) xs) (set d (at + i) (get_or xs i 0)) ≡ pasted (at + i) (drop i xs) d
copy_next i at xs d h g =
    let l : length (drop (i + 1) xs) ≡ length xs - (i + 1) = length-drop (i + 1) xs in
    let o : at + i + 1 ≡ at + (i + 1) = omega arith in
    rw (drop_next xs i h, pasted_cons (at + i) (get_or xs i 0) (drop (i + 1) xs) d (omega arith), o)

pub length_bytes_all : (k : ℕ) (ws : List ℕ) → length (flat_map (bytes k) ws) ≡ k * length ws
unfolding flat_map
length_bytes_all k [] = rw mul-zero
length_bytes_all k (w ∷ ws) = rw (length-append, length_bytes, length_bytes_all k ws, mul-suc) (omega arith)

-- past the last nothing is left to copy
pub copy_end : (i at : ℕ) (xs d : List ℕ) → length xs ≤ i → pasted at (drop i xs) d ≡ d
copy_end i at xs d h = rw (drop_of_length-le xs h) (pasted_none at d)

-- words as four bytes each, one word at a time
pub floats_next : (i at : ℕ) (xs d : List ℕ) → i < length xs → at + 4 * length xs ≤ length d →
    pasted (at + 4 * (i + 1)) (flat_map (bytes 4) (drop (i + 1) xs)) (pasted (at + 4 * i) (bytes 4 (get_or xs i 0)) d)
    ≡ pasted (at + 4 * i) (flat_map (bytes 4) (drop i xs)) d
unfolding flat_map
floats_next i at xs d h g =
    let l : length (drop (i + 1) xs) ≡ length xs - (i + 1) = length-drop (i + 1) xs in
    let b : length (bytes 4 (get_or xs i 0)) ≡ 4 = length_bytes 4 (get_or xs i 0) in
    let t : length (flat_map (bytes 4) (drop (i + 1) xs)) ≡ 4 * length (drop (i + 1) xs) = length_bytes_all 4 (drop (i + 1) xs) in
    let r : at + 4 * i + length (bytes 4 (get_or xs i 0) ++ flat_map (bytes 4) (drop (i + 1) xs)) ≤ length d = rw length-append (omega arith) in
    let o : at + 4 * i + 4 ≡ at + 4 * (i + 1) = omega arith in
    rw (drop_next xs i h, pasted_append (at + 4 * i) (bytes 4 (get_or xs i 0)) (flat_map (bytes 4) (drop (i + 1) xs)) d r, b, o)

pub floats_end : (i at : ℕ) (xs d : List ℕ) → length xs ≤ i → pasted at (flat_map (bytes 4) (drop i xs)) d ≡ d
unfolding flat_map
floats_end i at xs d h = rw (drop_of_length-le xs h) (pasted_none at d)

-- values that are each at most the largest of a slot from 0 on are sound in as many of it
pub all_low : (w h : ℕ) (xs : List ℕ) → list_all (λ v. leb v h) xs ≡ sound (replicate (length xs) (slot w 0 h)) xs
unfolding sound
all_low w h [] = refl
all_low w h (x ∷ xs) = rw (leb-zero x, all_low w h xs)

pub all_nought : (xs : List ℕ) → list_all (λ v. eqb v 0) xs ≡ all_zero xs
unfolding all_zero
all_nought [] = refl
all_nought (x ∷ xs) = rw (all_nought xs)

-- parts of a list, the first and the rest
pub parts_turn : (k n i : ℕ) (ws : List ℕ) → i < n → parts k (n - i) (drop (k * i) ws) ≡ take k (drop (k * i) ws) ∷ parts k (n - (i + 1)) (drop (k * (i + 1)) ws)
unfolding parts
parts_turn k n i ws h =
    let e : n - i ≡ suc (n - (i + 1)) = omega arith in
    let m : k * (i + 1) ≡ k * i + k = rw (add-one, mul-suc) in
    rw (e, m, drop-drop k (k * i) ws)

pub pass_good : (p : List ℕ → Bool) (k n i : ℕ) (ws : List ℕ) → i < n → p (take k (drop (k * i) ws)) ≡ true →
    all_pass p (parts k (n - (i + 1)) (drop (k * (i + 1)) ws)) ≡ all_pass p (parts k (n - i) (drop (k * i) ws))
unfolding all_pass
pass_good p k n i ws h t = sym (ap (all_pass p) (parts_turn k n i ws h) ∙ ap (λ (b : Bool). b && all_pass p (parts k (n - (i + 1)) (drop (k * (i + 1)) ws))) t)

pub pass_bad : (p : List ℕ → Bool) (k n i : ℕ) (ws : List ℕ) → i < n → p (take k (drop (k * i) ws)) ≡ false →
    all_pass p (parts k (n - i) (drop (k * i) ws)) ≡ false
unfolding all_pass
pass_bad p k n i ws h t = ap (all_pass p) (parts_turn k n i ws h) ∙ ap (λ (b : Bool). b && all_pass p (parts k (n - (i + 1)) (drop (k * (i + 1)) ws))) t

pub pass_end : (p : List ℕ → Bool) (k n i : ℕ) (ws : List ℕ) → n ≤ i → all_pass p (parts k (n - i) (drop (k * i) ws)) ≡ true
unfolding all_pass parts
pass_end p k n i ws h =
    let e : n - i ≡ 0 = omega arith in
    rw e

pub pass_start : (p : List ℕ → Bool) (k n : ℕ) (ws : List ℕ) → all_pass p (parts k (n - 0) (drop (k * 0) ws)) ≡ all_pass p (parts k n ws)
pass_start p k n ws = rw (mul-zero, sub-zero)

-- a part of k elements before the last of n lies inside them
pub step_inside : (k n i : ℕ) → i < n → k * i + k ≤ k * n
step_inside k n i h = rw (← mul-suc) (mul-le-mul_left k h)

-- what parts are mapped to, where each is m long
pub length_all : (F : List ℕ → List ℕ) (m : ℕ) → ((w : List ℕ) → length (F w) ≡ m) → (k n : ℕ) (ws : List ℕ) → length (flat_map F (parts k n ws)) ≡ m * n
length_all F m e k n ws = length_flat m F (λ _. true) (λ x _. e x) (parts k n ws) (pass_all (parts k n ws)) ∙ ap (λ (j : ℕ). m * j) (length_parts k n ws)

-- parts written one after the other from b, each as m bytes
pub parts_put : (F : List ℕ → List ℕ) (k m b n i : ℕ) (ws d : List ℕ) → ((w : List ℕ) → length (F w) ≡ m) → i < n → b + m * n ≤ length d →
    pasted (b + m * (i + 1)) (flat_map F (parts k (n - (i + 1)) (drop (k * (i + 1)) ws))) (pasted (b + m * i) (F (take k (drop (k * i) ws))) d)
    ≡ pasted (b + m * i) (flat_map F (parts k (n - i) (drop (k * i) ws))) d
unfolding flat_map
parts_put F k m b n i ws d e h room =
    let x = take k (drop (k * i) ws) in
    let t = flat_map F (parts k (n - (i + 1)) (drop (k * (i + 1)) ws)) in
    let lx : length (F (take k (drop (k * i) ws))) ≡ m = e (take k (drop (k * i) ws)) in
    let lt : length (flat_map F (parts k (n - (i + 1)) (drop (k * (i + 1)) ws))) ≡ m * (n - (i + 1)) = length_all F m e k (n - (i + 1)) (drop (k * (i + 1)) ws) in
    let q : n ≡ i + suc (n - (i + 1)) = omega arith in
    let r : m * n ≡ m * i + (m * (n - (i + 1)) + m) = ap (λ (y : ℕ). m * y) q ∙ mul-add m i (suc (n - (i + 1))) ∙ rw mul-suc in
    let o : b + m * i + m ≡ b + m * (i + 1) = rw (add-one, mul-suc) (omega arith) in
    let g : b + m * i + length (F (take k (drop (k * i) ws)) ++ flat_map F (parts k (n - (i + 1)) (drop (k * (i + 1)) ws))) ≤ length d = rw length-append (omega arith) in
    sym (ap (λ (ps : List (List ℕ)). pasted (b + m * i) (flat_map F ps) d) (parts_turn k n i ws h)
    ∙ pasted_append (b + m * i) (F (take k (drop (k * i) ws))) (flat_map F (parts k (n - (i + 1)) (drop (k * (i + 1)) ws))) d g
    ∙ ap (λ (y : ℕ). pasted y (flat_map F (parts k (n - (i + 1)) (drop (k * (i + 1)) ws))) (pasted (b + m * i) (F (take k (drop (k * i) ws))) d))
    (ap (λ (y : ℕ). b + m * i + y) lx ∙ o))

pub parts_begin : (F : List ℕ → List ℕ) (k m b n : ℕ) (ws d : List ℕ) → pasted (b + m * 0) (flat_map F (parts k (n - 0) (drop (k * 0) ws))) d ≡ pasted b (flat_map F (parts k n ws)) d
parts_begin F k m b n ws d = rw (mul-zero, mul-zero, sub-zero, add-zero)

pub parts_end : (F : List ℕ → List ℕ) (k b n i : ℕ) (ws d : List ℕ) → n ≤ i → pasted b (flat_map F (parts k (n - i) (drop (k * i) ws))) d ≡ d
unfolding flat_map parts
parts_end F k b n i ws d h =
    let e : n - i ≡ 0 = omega arith in
    ap (λ (y : ℕ). pasted b (flat_map F (parts k y (drop (k * i) ws))) d) e ∙ pasted_none b d

-- five elements from k
pub five_at : (k : ℕ) (ws : List ℕ) → k + 5 ≤ length ws →
    take 5 (drop k ws) ≡ get_or ws k 0 ∷ get_or ws (k + 1) 0 ∷ get_or ws (k + 2) 0 ∷ get_or ws (k + 3) 0 ∷ get_or ws (k + 4) 0 ∷ []
five_at k ws h =
    next 4 k (k + 1) ws refl (omega arith)
    ∙ ap (λ (t : List ℕ). get_or ws k 0 ∷ t) (next 3 (k + 1) (k + 2) ws (omega arith) (omega arith)
    ∙ ap (λ (t : List ℕ). get_or ws (k + 1) 0 ∷ t) (next 2 (k + 2) (k + 3) ws (omega arith) (omega arith)
    ∙ ap (λ (t : List ℕ). get_or ws (k + 2) 0 ∷ t) (next 1 (k + 3) (k + 4) ws (omega arith) (omega arith)
    ∙ ap (λ (t : List ℕ). get_or ws (k + 3) 0 ∷ t) (next 0 (k + 4) (k + 5) ws (omega arith) (omega arith))))) where
      next : (n i j : ℕ) (ws : List ℕ) → i + 1 ≡ j → i < length ws → take (suc n) (drop i ws) ≡ get_or ws i 0 ∷ take n (drop j ws)
      next n i j ws e h = rw (← e, add-one, drop-cons ws i 0 h)
