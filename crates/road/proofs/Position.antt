-- A position in an octave, taken to the frame and back, stays less than a cell from the keypoint's cell. Assumes nothing.
use Prim.Native.Nat.{ℕ, zero, suc, ◌+◌, ◌-◌, ◌*◌, ◌/◌, ◌^◌, ◌<◌, ◌≤◌, compare, min}
use native.Mathlib.Nat.{zero-lt-suc, le_of_eq, zero-mul, zero-div, le_trans, lt_of_le_of_lt, mul-pos, mul-one, one-mul, mul_comm, mul_assoc, mul_left_comm, add-mul, div-one, mod-one}
use native.Mathlib.Omega.{arith}
use mathlib.Core.Path.{◌≡◌, refl, sym, ap, ap₂, ◌∙◌, subst}
use mathlib.Core.Bool.{Bool, true, false, true≢false, false≢true}
use lib.Dec.{T, le→leb, lit<, lit≤}
use lib.Pow.{pow_pos, pow_mono, pow-add}
use lib.IntN.{pos, neg_ℤ}
use lib.Ieee.{Float, nan, inf, fin, binary32, round, of_int, of_bits, add, sum, mul, le, lt, up, down, nearest, to_signed, to_unsigned, in_float, neg}
use lib.Ieee.Nearest.{closest, closest_same}
use lib.Ieee.Back.{round_whole, unsigned_back}
use lib.Ieee.Exact.{HasValue, round_exact}
use lib.Ieee.Positive.{positive, positive_of_value, mul_at}
use lib.Ieee.Scale.{finite, round_same}
use lib.Ieee.Fits.{up_pos, down_pos}
use Rattle.ieee.specs.F32.{◌⊕◌, ◌⊗◌, rounded, float}
use Rattle.ieee.specs.Whole.{round_even}
use Rattle.ieee.specs.Numbers.{half, one}
use Rattle.ieee_laws.proofs.Monotone.{nil, add_le, mul_le_left, to_unsigned_le}
use Rattle.ieee_laws.proofs.Bounds.{Bounds, bounds_finite, bounds_point, add_bounds, mul_bounds, round_even_bounds, of_int_bounds, abs_bounds, marked_nonneg}
use Rattle.ieee_laws.proofs.Order.{le_fin, Marked, ended, le_trans_float, lt_le}
use Rattle.params.specs.Limits.{border, max_side, max_octave}
use Rattle.detect_keypoint.specs.Sound.{Near}
use Rattle.descriptor_patch.specs.Patch.{cell_of}
use Rattle.descriptor.specs.Place.{on_side}
use borrow.Author.Tests.{lt-ltb}
use Rattle.hal_angle.proofs.AngleValues.{div_value}
use Rattle.descriptor_inputs.specs.Inputs.{shrink_of}

-- a whole number as an f32, and its value
whole : (n : ℕ) → n ≤ 2 ^ 24 → HasValue (float n) false n 1
unfolding of_int
whole n l = round_whole binary32 false n l

-- and times a power of two
raised : (n o : ℕ) → n ≤ max_side → o ≤ max_octave → HasValue (round binary32 false (n * 2 ^ o) 1) false (n * 2 ^ o) 1
raised n o a b =
    round_exact binary32 false (n * 2 ^ o) 1 n (149 + o) (lit< tt) (lt_of_le_of_lt a (lit< tt))
    (lt_of_le_of_lt (mul_le n (2 ^ (149 + o)) a (pow_mono high)) (lit< tt))
    (mul_assoc n (2 ^ o) (2 ^ 149) ∙ ap (λ (k : ℕ). n * k) (mul_comm (2 ^ o) (2 ^ 149) ∙ sym (pow-add 2 149 o)) ∙ sym (mul-one (n * 2 ^ (149 + o))))
  where
    high : 149 + o ≤ 164
    high = omega (arith, b)

    mul_le : (m k : ℕ) → m ≤ max_side → k ≤ 2 ^ 164 → m * k ≤ max_side * 2 ^ 164
    mul_le m k p q = native.Mathlib.Nat.mul-le-mul {n₁ = m} {m₁ = k} {n₂ = max_side} {m₂ = 2 ^ 164} p q

-- two fractions, added
add_value : (x y : Float) (a c b d : ℕ) → 0 < c → 0 < d → HasValue x false a c → HasValue y false b d → add binary32 x y ≡ round binary32 false (a * d + b * c) (c * d)
unfolding add sum
add_value nan y a c b d C D h k = absurd h
add_value (inf s) y a c b d C D h k = absurd h
add_value (fin true m e) y a c b d C D h k = absurd (true≢false h.0)
add_value (fin false m e) nan a c b d C D h k = absurd k
add_value (fin false m e) (inf s) a c b d C D h k = absurd k
add_value (fin false m e) (fin true n g) a c b d C D h k = absurd (true≢false k.0)
add_value (fin false m e) (fin false n g) a c b d C D h k =
    round_same binary32 false (m * up e * down g + n * up g * down e) (down e * down g) (a * d + b * c) (c * d) (mul-pos (down_pos e) (down_pos g)) (mul-pos C D) same
  where
    same : (m * up e * down g + n * up g * down e) * (c * d) ≡ (a * d + b * c) * (down e * down g)
    same =
        let p : m * up e * c * (d * down g) ≡ a * down e * (d * down g) = ap (λ (z : ℕ). z * (d * down g)) h.1 in
        let q : n * up g * d * (c * down e) ≡ b * down g * (c * down e) = ap (λ (z : ℕ). z * (c * down e)) k.1 in
        simp (add-mul, mul_assoc, mul_comm, mul_left_comm) (ap₂ (λ (u v : ℕ). u + v) (simp (mul_assoc, mul_comm, mul_left_comm) at p) (simp (mul_assoc, mul_comm, mul_left_comm) at q))

one_value : HasValue one false 1 1
unfolding of_bits
one_value = (refl, refl)

next_up : (n : ℕ) → n ≤ max_side → float n ⊕ one ≡ float (n + 1)
unfolding of_int
next_up n l =
    add_value (float n) one n 1 1 1 (lit< tt) (lit< tt) (whole n (le_trans l (lit≤ tt))) one_value
    ∙ ap (λ (m : ℕ). round binary32 false (m + 1) 1) (mul-one n)

-- ---- down to the octave's cells

power_small : (o : ℕ) → o ≤ max_octave → 2 ^ o ≤ 2 ^ 24
power_small o b = pow_mono high
  where
    high : o ≤ 24
    high = omega (arith, b)

power_value : (o : ℕ) → o ≤ max_octave → HasValue (float (2 ^ o)) false (2 ^ o) 1
power_value o b = whole (2 ^ o) (power_small o b)

shrink_value : (o : ℕ) → o ≤ max_octave → HasValue (shrink_of o) false 1 (2 ^ o)
unfolding shrink_of
shrink_value o b =
    subst (λ (x : Float). HasValue x false 1 (2 ^ o))
    (sym (div_value binary32 one (float (2 ^ o)) 1 1 (2 ^ o) 1 (lit< tt) (lit< tt) (pow_pos o) one_value (power_value o b) ∙ ap (λ (k : ℕ). round binary32 false 1 k) (mul-one (2 ^ o))))
    (round_exact binary32 false 1 (2 ^ o) 1 (149 - o) (pow_pos o) (lit< tt) (lt_of_le_of_lt (le_trans (le_of_eq (one-mul (2 ^ (149 - o)))) (pow_mono less)) (lit< tt))
    (ap (λ (k : ℕ). 1 * k) (ap (λ (k : ℕ). 2 ^ k) split ∙ pow-add 2 (149 - o) o) ∙ sym (mul_assoc 1 (2 ^ (149 - o)) (2 ^ o))))
  where
    less : 149 - o ≤ 149
    less = omega arith

    split : 149 ≡ 149 - o + o
    split = omega (arith, b)

above : (x : Float) (a c : ℕ) → HasValue x false a c → 0 < a → T (positive x)
above x a c v l = positive_of_value x a c v l

up_is : (n o : ℕ) → 1 ≤ n → n ≤ max_side → o ≤ max_octave → float n ⊗ float (2 ^ o) ≡ round binary32 false (n * 2 ^ o) 1
up_is n o l a b =
    mul_at binary32 (float n) (float (2 ^ o)) n 1 (2 ^ o) 1 (above (float n) n 1 (whole n (le_trans a (lit≤ tt))) l) (above (float (2 ^ o)) (2 ^ o) 1 (power_value o b) (pow_pos o))
    (lit< tt) (lit< tt) (whole n (le_trans a (lit≤ tt))) (power_value o b)

-- a whole number taken up and down again is itself
there_and_back : (n o : ℕ) → 1 ≤ n → n ≤ max_side → o ≤ max_octave → float n ⊗ float (2 ^ o) ⊗ shrink_of o ≡ float n
unfolding of_int
there_and_back n o l a b =
    ap (λ (x : Float). x ⊗ shrink_of o) (up_is n o l a b)
    ∙ mul_at binary32 (round binary32 false (n * 2 ^ o) 1) (shrink_of o) (n * 2 ^ o) 1 1 (2 ^ o) (above (round binary32 false (n * 2 ^ o) 1) (n * 2 ^ o) 1 (raised n o a b) (mul-pos l (pow_pos o))) (above (shrink_of o) 1 (2 ^ o) (shrink_value o b) (lit< tt))
    (lit< tt) (pow_pos o) (raised n o a b) (shrink_value o b)
    ∙ round_same binary32 false (n * 2 ^ o * 1) (1 * 2 ^ o) n 1 (mul-pos (lit< tt) (pow_pos o)) (lit< tt)
    (mul-one (n * 2 ^ o * 1) ∙ mul-one (n * 2 ^ o) ∙ ap (λ (k : ℕ). n * k) (sym (one-mul (2 ^ o))))

value_finite : (x : Float) (s : Bool) (a c : ℕ) → HasValue x s a c → finite x ≡ true
value_finite nan s a c h = absurd h
value_finite (inf t) s a c h = absurd h
value_finite (fin t m e) s a c h = refl

-- ---- the rounded position

closest_whole : (n : ℕ) → closest n 1 ≡ n
closest_whole n = ap₂ (λ (q r : ℕ). nearest q (compare (r * 2) 1)) (div-one n) (mod-one n)

rounded_whole : (n : ℕ) → n ≤ max_side → rounded (float n) ≡ float n
unfolding round_even of_int
rounded_whole n l = go (float n) (whole n (le_trans l (lit≤ tt)))
  where
    go : (x : Float) → HasValue x false n 1 → rounded x ≡ float n
    go nan h = absurd h
    go (inf t) h = absurd h
    go (fin true m e) h = absurd (true≢false h.0)
    go (fin false m e) h = ap (λ (k : ℕ). round binary32 false k 1) (closest_same (m * up e) (down e) n 1 (down_pos e) (lit< tt) h.1 ∙ closest_whole n)

unsigned_of : (x : Float) → le nil x ≡ true → to_signed 31 x ≡ pos (to_unsigned 31 x)
unfolding le to_signed to_unsigned
unsigned_of nan h = absurd (false≢true h)
unsigned_of (inf true) h = absurd (false≢true h)
unsigned_of (inf false) h = refl
unsigned_of (fin false m e) h = refl
unsigned_of (fin true zero e) h = ap (λ (k : ℕ). neg_ℤ (pos (min (k / down e) (2 ^ 31)))) (zero-mul (up e)) ∙ ap (λ (k : ℕ). neg_ℤ (pos (min k (2 ^ 31)))) (zero-div (down e))
unsigned_of (fin true (suc m) e) h = absurd (under (le_fin false 0 (pos 0) true (suc m) e h).cross)
  where
    under : 0 * 1 * down e + suc m * up e * 1 ≤ 0 * 1 + 0 * down e → ⊥
    under l = omega (arith, l, mul-pos (zero-lt-suc m) (up_pos e))

-- ---- small facts

refl_nil : le nil nil ≡ true
unfolding le
refl_nil = refl

marked_value : (x : Float) (a c : ℕ) → HasValue x false a c → Marked false x
marked_value nan a c h = absurd h
marked_value (inf t) a c h = absurd h
marked_value (fin true m e) a c h = absurd (true≢false h.0)
marked_value (fin false m e) a c h = ended

held : (n : ℕ) → n ≤ max_side → T (in_float binary32 (pos n))
unfolding in_float
held n l = le→leb n (2 ^ 24) (le_trans l (lit≤ tt))

-- ---- a position that detection gave, in its octave: c is the cell, and x the position

nil_there : (nil ⊗ nil ≡ nil) × (rounded nil ≡ nil)
unfolding mul round_even round
nil_there = (refl, refl)

offset_ends : (finite half ≡ true) × (le half one ≡ true) × (finite one ≡ true)
unfolding of_bits le
offset_ends = (refl, refl, refl)

sum_ends : (finite (float border ⊕ neg half) ≡ true) × (finite (float max_side ⊕ half) ≡ true)
unfolding of_bits of_int neg add
sum_ends = (refl, refl)

whole_ends : (finite (float border) ≡ true) × (finite (float max_side) ≡ true)
unfolding of_int
whole_ends = (refl, refl)

module _ (c o side : ℕ) (x : Float) (from : border ≤ c) (to : c < side - border) (small : side ≤ max_side) (low : o ≤ max_octave) (near : Near c o x) (ends : finite x ≡ true) (plus : lt nil x ≡ true) where
  fits_below : c + 1 ≤ max_side
  fits_below = omega (arith, to, small)

  some : 1 ≤ c + 1
  some = omega arith

  within_side : c + 1 < side
  within_side = omega (arith, to)

  c_small : c ≤ max_side
  c_small = omega (arith, fits_below)

  offset_in : Bounds (neg half) half near.offset
  offset_in = abs_bounds near.offset half offset_ends.0 near.small

  offset_finite : finite near.offset ≡ true
  offset_finite = bounds_finite offset_in

  cell_finite : (n : ℕ) → n ≤ max_side → finite (float n) ≡ true
  cell_finite n l = value_finite (float n) false n 1 (whole n (le_trans l (lit≤ tt)))

  moved_finite : finite (float c ⊕ near.offset) ≡ true
  moved_finite =
      bounds_finite (add_bounds binary32 sum_ends.0 sum_ends.1 (of_int_bounds binary32 border max_side c whole_ends.0 whole_ends.1 from c_small) offset_in)

  moved_below : le (float c ⊕ near.offset) (float (c + 1)) ≡ true
  moved_below =
      subst (λ (z : Float). le (float c ⊕ near.offset) z ≡ true) (next_up c c_small)
      (add_le binary32 (float c) (float c) near.offset one (cell_finite c c_small) (cell_finite c c_small) offset_finite offset_ends.2
      (bounds_point (float c) (cell_finite c c_small)).low (le_trans_float near.offset half one offset_in.high offset_ends.1))

  abbrev top : Float
  top = float (c + 1) ⊗ float (2 ^ o)

  top_value : HasValue top false ((c + 1) * 2 ^ o) 1
  top_value = subst (λ (z : Float). HasValue z false ((c + 1) * 2 ^ o) 1) (sym (up_is (c + 1) o some fits_below low)) (raised (c + 1) o fits_below low)

  not_negative : (y : Float) (a k : ℕ) → HasValue y false a k → le nil y ≡ true
  not_negative y a k v = marked_nonneg (marked_value y a k v)

  x_below : le x top ≡ true
  x_below =
      subst (λ (z : Float). le z top ≡ true) (sym near.is)
      (mul_le_left binary32 (float c ⊕ near.offset) (float (c + 1)) (float (2 ^ o)) moved_finite (cell_finite (c + 1) fits_below) (value_finite (float (2 ^ o)) false (2 ^ o) 1 (power_value o low)) moved_below
      (not_negative (float (2 ^ o)) (2 ^ o) 1 (power_value o low)))

  -- from 0 to the next cell's middle
  position_in : Bounds nil (float (c + 1)) (x ⊗ shrink_of o)
  position_in =
      subst (λ (z : Float). Bounds z (float (c + 1)) (x ⊗ shrink_of o)) nil_there.0
      (subst (λ (z : Float). Bounds (nil ⊗ nil) z (x ⊗ shrink_of o)) (there_and_back (c + 1) o some fits_below low)
      (mul_bounds binary32 {a = nil} {b = top} {c = nil} {d = shrink_of o} refl_nil refl_nil (ap finite nil_there.0) (ap finite (there_and_back (c + 1) o some fits_below low) ∙ cell_finite (c + 1) fits_below)
      (record { from = refl; to = value_finite top false ((c + 1) * 2 ^ o) 1 top_value; low = lt_le nil x plus; high = x_below })
      (record { from = refl; to = shrink_finite; low = not_negative (shrink_of o) 1 (2 ^ o) (shrink_value o low); high = (bounds_point (shrink_of o) shrink_finite).low })))
    where
      shrink_finite : finite (shrink_of o) ≡ true
      shrink_finite = value_finite (shrink_of o) false 1 (2 ^ o) (shrink_value o low)

  rounded_in : Bounds nil (float (c + 1)) (rounded (x ⊗ shrink_of o))
  rounded_in =
      subst (λ (z : Float). Bounds z (float (c + 1)) (rounded (x ⊗ shrink_of o))) nil_there.1
      (subst (λ (z : Float). Bounds (rounded nil) z (rounded (x ⊗ shrink_of o))) (rounded_whole (c + 1) fits_below)
      (round_even_bounds binary32 (ap finite nil_there.1) (ap finite (rounded_whole (c + 1) fits_below) ∙ cell_finite (c + 1) fits_below) position_in))

  pub position_finite : finite (x ⊗ shrink_of o) ≡ true
  position_finite = bounds_finite position_in

  cell_below : to_unsigned 31 (rounded (x ⊗ shrink_of o)) ≤ c + 1
  cell_below =
      le_trans (to_unsigned_le 31 (rounded (x ⊗ shrink_of o)) (float (c + 1)) rounded_in.high)
      (le_of_eq (unsigned_back binary32 31 (c + 1) (held (c + 1) fits_below) (lt_of_le_of_lt fits_below (lit< tt))).1)

  -- the rounded position lies on the side
  pub position_on : on_side side (cell_of (x ⊗ shrink_of o)) ≡ true
  position_on = ap (on_side side) (unsigned_of (rounded (x ⊗ shrink_of o)) rounded_in.low) ∙ lt-ltb (to_unsigned 31 (rounded (x ⊗ shrink_of o))) side (lt_of_le_of_lt cell_below within_side)
