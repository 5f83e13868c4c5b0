-- Reading numbers and fields off bytes.
-- Assumes nothing.
use mathlib.Core.Path.{◌≡◌, sym, ap, ◌∙◌}
use mathlib.Core.List.{List, [], ◌∷◌, ◌++◌}
use Prim.Native.Nat.{ℕ, zero, suc, ◌+◌, ◌*◌, ◌/◌, ◌%◌, ◌^◌, ◌≤◌, ◌<◌}
use native.Mathlib.Nat.{mul-add, lt_of_lt_of_le, mod-lt, add_comm, div-div-eq-div-mul}
use native.Mathlib.Numerals.{add-one}
use native.Mathlib.Omega.{arith}
use lib.ListN.{length, get_or, take, drop, length-take, length-drop, take-append-drop}
use lib.Seq.{take-suc, get_or-drop}
use lib.Pow.{pow-add, pow_mono, pow_pos, high, low, mod-pow-add}
use lib.Arith.{digits_lt}
use Rattle.sheet.specs.Pack.{Slot, bits, value, fields, unpack, Bytes}
use Rattle.sheet.proofs.Packed.{bits_append, value_append, value_lt}

pub get_value : (bs : List ℕ) (at i : ℕ) → at + i < length bs → value (take i (drop at bs)) * 256 + get_or bs (at + i) 0 ≡ value (take (i + 1) (drop at bs))
unfolding value
get_value bs at i h =
    let l : i < length (drop at bs) = rw length-drop (omega arith) in
    sym (rw (add-one, take-suc (drop at bs) i 0 l, value_append, get_or-drop) (omega arith))

pub get_lt : (acc b i : ℕ) → acc < 2 ^ (8 * i) → b < 256 → acc * 256 + b < 2 ^ (8 * (i + 1))
get_lt acc b i h g =
    let e : 2 ^ (8 * (i + 1)) ≡ 2 ^ (8 * i) * 256 = rw (mul-add, pow-add) in
    rw e (digits_lt h g)

w : (i : ℕ) → i ≤ 7 → 8 * i ≤ 56
w i h = omega arith

pub get_fits : (acc i : ℕ) → acc < 2 ^ (8 * i) → i ≤ 7 → acc < 2 ^ 56
get_fits acc i h g = lt_of_lt_of_le h (pow_mono (w i g))

pub bytes_drop : (n : ℕ) (bs : List ℕ) → Bytes bs → Bytes (drop n bs)
bytes_drop n bs h i = rw get_or-drop (h (n + i))

pub bytes_take : (n : ℕ) (bs : List ℕ) → Bytes bs → Bytes (take n bs)
bytes_take zero bs h i = omega arith
bytes_take (suc n) [] h i = omega arith
bytes_take (suc n) (b ∷ bs) h zero = h 0
bytes_take (suc n) (b ∷ bs) h (suc i) = bytes_take n bs (λ j. h (suc j)) i

pub value_fits : (bs : List ℕ) (at k : ℕ) → Bytes bs → at + k ≤ length bs → value (take k (drop at bs)) < 2 ^ (8 * k)
value_fits bs at k h r =
    let l : length (take k (drop at bs)) ≡ k = rw (length-take, length-drop) (omega arith) in
    rw l at (value_lt (take k (drop at bs)) (bytes_take k (drop at bs) (bytes_drop at bs h)))

-- two runs of fields
pub fields_append : (ss ts : List Slot) (m n : ℕ) → m < 2 ^ bits ss → n < 2 ^ bits ts → fields (ss ++ ts) (m * 2 ^ bits ts + n) ≡ fields ss m ++ fields ts n
unfolding fields bits
fields_append [] ts m n h g =
    let e : m ≡ 0 = omega arith in
    rw e (ap (fields ts) (omega arith))
fields_append (s ∷ ss) ts m n h g =
    let b : bits (ss ++ ts) ≡ bits ss + bits ts = bits_append ss ts in
    let p : 2 ^ (bits ss + bits ts) ≡ 2 ^ bits ts * 2 ^ bits ss = ap (λ (k : ℕ). 2 ^ k) (add_comm (bits ss) (bits ts)) ∙ pow-add 2 (bits ts) (bits ss) in
    let d : (m * 2 ^ bits ts + n) / 2 ^ bits (ss ++ ts) ≡ m / 2 ^ bits ss =
    ap (λ (k : ℕ). (m * 2 ^ bits ts + n) / 2 ^ k) b ∙ ap (λ (k : ℕ). (m * 2 ^ bits ts + n) / k) p
    ∙ sym (div-div-eq-div-mul (m * 2 ^ bits ts + n) (2 ^ bits ts) (2 ^ bits ss)) ∙ ap (λ (k : ℕ). k / 2 ^ bits ss) (high m (bits ts) g) in
    let r : (m * 2 ^ bits ts + n) % 2 ^ bits (ss ++ ts) ≡ m % 2 ^ bits ss * 2 ^ bits ts + n =
    ap (λ (k : ℕ). (m * 2 ^ bits ts + n) % 2 ^ k) b ∙ mod-pow-add (m * 2 ^ bits ts + n) (bits ss) (bits ts)
    ∙ rw (high m (bits ts) g, low m (bits ts) g) in
    rw (d, r, fields_append ss ts (m % 2 ^ bits ss) n (mod-lt m (pow_pos (bits ss))) g)

pub unpack_append : (ss ts : List Slot) (a b : List ℕ) → bits ss ≡ 8 * length a → bits ts ≡ 8 * length b → Bytes a → Bytes b →
    unpack (ss ++ ts) (a ++ b) ≡ unpack ss a ++ unpack ts b
unfolding unpack
unpack_append ss ts a b p q h g =
    ap (fields (ss ++ ts)) (value_append a b ∙ ap (λ (k : ℕ). value a * 2 ^ k + value b) (sym q))
    ∙ fields_append ss ts (value a) (value b) (rw p (value_lt a h)) (rw q (value_lt b g))

-- a field of k whole bytes, and the rest
pub unpack_step : (s : Slot) (ss : List Slot) (bs : List ℕ) (k m : ℕ) → s.width ≡ 8 * k → bits ss ≡ 8 * m → length bs ≡ k + m → Bytes bs →
    unpack (s ∷ ss) bs ≡ value (take k bs) ∷ unpack ss (drop k bs)
unfolding unpack fields
unpack_step s ss bs k m e p l h =
    let n : length (drop k bs) ≡ m = rw length-drop (omega arith) in
    let v : value bs ≡ value (take k bs) * 2 ^ bits ss + value (drop k bs) =
    ap value (sym (take-append-drop k bs)) ∙ value_append (take k bs) (drop k bs) ∙ ap (λ (j : ℕ). value (take k bs) * 2 ^ j + value (drop k bs)) (ap (λ (j : ℕ). 8 * j) n ∙ sym p) in
    let g : value (drop k bs) < 2 ^ bits ss = rw p (rw n at (value_lt (drop k bs) (bytes_drop k bs h))) in
    rw (v, high (value (take k bs)) (bits ss) g, low (value (take k bs)) (bits ss) g)

pub one_value : (b : ℕ) → value (b ∷ []) ≡ b
unfolding value
one_value b = omega arith

pub both_bytes : (a b : List ℕ) → Bytes a → Bytes b → Bytes (a ++ b)
both_bytes [] b h g i = g i
both_bytes (x ∷ a) b h g zero = h 0
both_bytes (x ∷ a) b h g (suc i) = both_bytes a b (λ j. h (suc j)) g i
