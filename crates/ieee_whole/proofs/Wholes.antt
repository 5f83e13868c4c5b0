-- The whole parts of equal fractions are equal. Assumes nothing.
use mathlib.Core.Path.{◌≡◌, refl, sym, ap, ◌∙◌}
use Prim.Native.Nat.{Ordering}
use Prim.Native.Nat.{ℕ, zero, suc, ◌+◌, ◌-◌, ◌*◌, ◌/◌, ◌^◌, ◌≤◌, ◌<◌, min, zero-le, suc-le-suc}
use native.Mathlib.Nat.{le_refl, le_trans, le_of_eq, le_of_lt, le_antisymm, le_of_suc-le-suc, lt_of_lt_of_le, zero-lt-suc, add-zero, zero-mul, one-mul, div-one, suc-mul, mul-one, mul_comm, mul_assoc, mul_right_comm, mul-le-mul, mul-le-mul_right, le_of_mul-le-mul_right, div-lt_iff_lt-mul, div-eq_of_lt}
use native.Mathlib.Omega.{arith}
use mathlib.Core.Bool.{Bool, true, false, true≢false}
use lib.IntN.{ℤ, pos, neg_ℤ}
use lib.Arith.{le-zero}
use lib.Pow.{pow-add, pow_pos, pow_mono}
use lib.Ieee.{Float, nan, inf, fin, binary32, up, down, round}
use lib.Ieee.Digits.{back}
use lib.Ieee.Fits.{down_pos}
use lib.Ieee.Exact.{HasValue}
use lib.Ieee.Nearest.{closest, closest_same, closest_mono, div_same}
use lib.Ieee.Scale.{finite}
use Rattle.packing.proofs.Half.{closest_is}
use Rattle.ieee_whole.specs.declared.Way.{Way}
use Rattle.ieee_whole.specs.declared.Way.TheVariants.{Zero, Down, Near}
use Rattle.ieee.specs.Whole.{floor_size, floor, round_even, saturate}
use Rattle.ieee_whole.specs.Parts.{whole_size, whole}

-- (a + (b - 1)) / b is at most t exactly where a is at most t * b
pub ceil_le : (a b t : ℕ) → 0 < b → a ≤ t * b → (a + (b - 1)) / b ≤ t
ceil_le a b t B h = le_of_suc-le-suc ((div-lt_iff_lt-mul B).1 (let e : suc t * b ≡ t * b + b = suc-mul t b in omega arith))

le_ceil : (a b : ℕ) → 0 < b → a ≤ (a + (b - 1)) / b * b
le_ceil a b B =
    let t = (a + (b - 1)) / b in
    let l : a + (b - 1) < suc ((a + (b - 1)) / b) * b = (div-lt_iff_lt-mul B).0 (le_refl (suc ((a + (b - 1)) / b))) in
    let e : suc ((a + (b - 1)) / b) * b ≡ (a + (b - 1)) / b * b + b = suc-mul ((a + (b - 1)) / b) b in
    omega arith

ceil_mono : (a b c d : ℕ) → 0 < b → 0 < d → a * d ≤ c * b → (a + (b - 1)) / b ≤ (c + (d - 1)) / d
ceil_mono a b c d B D h =
    let t = (c + (d - 1)) / d in
    ceil_le a b t B (le_of_mul-le-mul_right (le_trans h (le_trans (mul-le-mul_right b (le_ceil c d D)) (le_of_eq (mul_right_comm t d b)))) D)

floor_same : (s : Bool) (a b c d : ℕ) → 0 < b → 0 < d → a * d ≡ c * b → floor_size s a b ≡ floor_size s c d
floor_same true a b c d B D e = le_antisymm (ceil_mono a b c d B D (le_of_eq e)) (ceil_mono c d a b D B (le_of_eq (sym e)))
floor_same false a b c d B D e = div_same a b c d B D e

-- ---- the size, whatever the way: by any fraction that is the same number, and of a whole number
pub size_same : (w : Way) (s : Bool) (a b c d : ℕ) → 0 < b → 0 < d → a * d ≡ c * b → whole_size w s a b ≡ whole_size w s c d
size_same Zero s a b c d B D e = div_same a b c d B D e
size_same Down s a b c d B D e = floor_same s a b c d B D e
size_same Near s a b c d B D e = closest_same a b c d B D e

size_one : (w : Way) (s : Bool) (a : ℕ) → whole_size w s a 1 ≡ a
size_one Zero s a = div-one a
size_one Down true a = ap (λ (y : ℕ). y / 1) (add-zero a) ∙ div-one a
size_one Down false a = div-one a
size_one Near s a = closest_is a 1 a 0 Ordering.lt (sym (add-zero (a * 1) ∙ mul-one a)) (zero-lt-suc 0) refl

-- ---- a value m * 2 ^ x / 2 ^ 149: shifted down by 149 - x, or up by x - 149
module _ (m x : ℕ) where
  down_cross : x ≤ 149 → m * 2 ^ x * 2 ^ (149 - x) ≡ m * 2 ^ 149
  down_cross h = mul_assoc m (2 ^ x) (2 ^ (149 - x)) ∙ ap (λ (y : ℕ). m * y) (mul_comm (2 ^ x) (2 ^ (149 - x)) ∙ sym (pow-add 2 (149 - x) x) ∙ ap (λ (y : ℕ). 2 ^ y) (back 149 x h))

  pub up_cross : 149 ≤ x → m * 2 ^ x * 1 ≡ m * 2 ^ (x - 149) * 2 ^ 149
  up_cross h = mul-one (m * 2 ^ x) ∙ sym (mul_assoc m (2 ^ (x - 149)) (2 ^ 149) ∙ ap (λ (y : ℕ). m * y) (sym (pow-add 2 (x - 149) 149) ∙ ap (λ (y : ℕ). 2 ^ y) (back x 149 h)))

  module _ (w : Way) (s : Bool) where
    pub size_down : x ≤ 149 → whole_size w s (m * 2 ^ x) (2 ^ 149) ≡ whole_size w s m (2 ^ (149 - x))
    size_down h = size_same w s (m * 2 ^ x) (2 ^ 149) m (2 ^ (149 - x)) (pow_pos 149) (pow_pos (149 - x)) (down_cross h)

    pub size_up : 149 ≤ x → whole_size w s (m * 2 ^ x) (2 ^ 149) ≡ m * 2 ^ (x - 149)
    size_up h = size_same w s (m * 2 ^ x) (2 ^ 149) (m * 2 ^ (x - 149)) 1 (pow_pos 149) (zero-lt-suc 0) (up_cross h) ∙ size_one w s (m * 2 ^ (x - 149))

-- ---- the operation, by any way to write the value's size
pub whole_is : (w : Way) (v : Float) (s : Bool) (a : ℕ) → HasValue v s a (2 ^ 149) → whole w binary32 v ≡ round binary32 s (whole_size w s a (2 ^ 149)) 1
unfolding whole
whole_is w nan s a h = absurd h
whole_is w (inf t) s a h = absurd h
whole_is w (fin t m e) s a h =
    ap (λ (u : Bool). round binary32 u (whole_size w u (m * up e) (down e)) 1) h.0
    ∙ ap (λ (k : ℕ). round binary32 s k 1) (size_same w s (m * up e) (down e) a (2 ^ 149) (down_pos e) (pow_pos 149) h.1)

pub whole_other : (w : Way) (v : Float) → finite v ≡ false → v ≡ whole w binary32 v
unfolding whole
whole_other w nan h = refl
whole_other w (inf s) h = refl
whole_other w (fin s m e) h = absurd (true≢false h)

-- ---- two of the ways have names
pub floor_whole : (v : Float) → whole Down binary32 v ≡ floor binary32 v
unfolding whole floor
floor_whole nan = refl
floor_whole (inf s) = refl
floor_whole (fin s m e) = refl

pub even_whole : (v : Float) → whole Near binary32 v ≡ round_even binary32 v
unfolding whole round_even
even_whole nan = refl
even_whole (inf s) = refl
even_whole (fin s m e) = refl

-- ---- far down nothing is left, or a one
module _ (m d : ℕ) (small : m < 2 ^ 24) (far : 40 ≤ d) where
  in_one : m < 2 ^ d
  in_one = lt_of_lt_of_le small (pow_mono {i = 24} {j = d} (omega arith))

  pub floor_none : m / 2 ^ d ≡ 0
  floor_none = div-eq_of_lt in_one

  pub near_none : closest m (2 ^ d) ≡ 0
  near_none = le-zero (closest_mono m (2 ^ d) (2 ^ 24) (2 ^ 40) (pow_pos d) (pow_pos 40) (mul-le-mul (le_of_lt small) (pow_mono far)))

  pub ceil_one : (m ≡ 0 → ⊥) → (m + (2 ^ d - 1)) / 2 ^ d ≡ 1
  ceil_one n = le_antisymm (ceil_le m (2 ^ d) 1 (pow_pos d) (le_trans (le_of_lt in_one) (le_of_eq (sym (one-mul (2 ^ d)))))) (some ((m + (2 ^ d - 1)) / 2 ^ d) (le_ceil m (2 ^ d) (pow_pos d)))
    where
      some : (c : ℕ) → m ≤ c * 2 ^ d → 1 ≤ c
      some zero h = let z : zero * 2 ^ d ≡ 0 = zero-mul (2 ^ d) in absurd (omega arith)
      some (suc c) h = suc-le-suc zero-le

pub ceil_zero : (d : ℕ) → (0 + (2 ^ d - 1)) / 2 ^ d ≡ 0
ceil_zero d = le-zero (ceil_le 0 (2 ^ d) 0 (pow_pos d) zero-le)

pub saturate_same : (s : Bool) (a b : ℕ) → min a (2 ^ 31) ≡ min b (2 ^ 31) → saturate 31 s a ≡ saturate 31 s b
saturate_same true a b e = ap (λ (k : ℕ). neg_ℤ (pos k)) e
saturate_same false a b e = ap (λ (k : ℕ). pos k) (one_less a b e)
  where
    one_less : (a b : ℕ) → min a (2 ^ 31) ≡ min b (2 ^ 31) → min a (2 ^ 31 - 1) ≡ min b (2 ^ 31 - 1)
    one_less a b e = omega arith

-- ---- `saturate` by the sign
pub saturate_minus : (s : Bool) (k : ℕ) (z : ℤ) → s ≡ true → z ≡ neg_ℤ (pos (min k (2 ^ 31))) → z ≡ saturate 31 s k
saturate_minus true k z e h = h
saturate_minus false k z e h = absurd (true≢false (sym e))

pub saturate_plus : (s : Bool) (k : ℕ) (z : ℤ) → s ≡ false → z ≡ pos (min k (2 ^ 31 - 1)) → z ≡ saturate 31 s k
saturate_plus false k z e h = h
saturate_plus true k z e h = absurd (true≢false e)
