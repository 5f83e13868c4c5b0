-- The sheet's ranges of bits are the rules on floats. Assumes nothing.
use Prim.Native.Nat.{ℕ, ◌*◌, ◌/◌, ◌%◌, ◌^◌, ◌≤◌, ◌<◌}
use native.Mathlib.Nat.{le_trans, le_of_eq, le_of_lt, lt_of_le_of_lt, lt_of_lt_of_le, mod-eq_of_lt, mul-pos, mul-one, mul-le-mul_right}
use native.Mathlib.Omega.{arith}
use mathlib.Core.Path.{◌≡◌, refl, sym, ap, ap₂, ◌∙◌, subst}
use mathlib.Core.Logic.{⊎_elim}
use mathlib.Core.Bool.{Bool, true, false, true≢false}
use lib.Dec.{T, leb, lit<, lit≤}
use lib.Arith.{lt→nleb}
use lib.Pow.{pow_pos}
use lib.IntN.{pos}
use lib.Ieee.{Float, nan, inf, fin, binary32, of_bits, of_fields, odd, lt, le, up}
use lib.Ieee.Bits.{is_true, is_false, of_bits-fits, to_bits-of_bits}
use lib.Ieee.Exact.{HasValue, odd_sign}
use lib.Ieee.Order.{le_of_values}
use lib.Ieee.Positive.{first_pos}
use lib.Ieee.Fits.{down_pos}
use Rattle.lists.proofs.Naturals.{le_or_lt}
use Rattle.packing.proofs.Fields.{of_bits_is, finite_no_nan}
use Rattle.ieee.specs.F32.{f32, bits_of, abs_of}
use Rattle.ieee.specs.Numbers.{nought, whole_turn}
use Rattle.ieee_laws.proofs.Monotone.{nil}
use Rattle.ieee_laws.proofs.Order.{fin_lt, le_lt_trans}
use Rattle.ieee_laws.proofs.Bounds.{zero_is}
use Rattle.sheet.specs.Layout.{largest_finite, least_positive, largest_angle}
use Rattle.sheet_floats.specs.Rules.{Plain, FloatRule}
use Rattle.sheet_floats.proofs.Patterns.{digits, power, value, rising, finite_bits, bits_below, bits_above}

-- ---- from the bits to the float

low_value : (b : ℕ) → b < 2 ^ 23 → HasValue (f32 b) false (b * 2 ^ 0) (2 ^ 149)
unfolding of_fields
low_value b l =
    subst (λ (v : Float). HasValue v false (b * 2 ^ 0) (2 ^ 149))
    (sym (of_bits_is binary32 b ∙ fields))
    (odd_sign 24 false b 0 149)
  where
    sign : leb (2 ^ 31) b ≡ false
    sign = is_false (leb (2 ^ 31) b) (lt→nleb (2 ^ 31) b (lt_of_lt_of_le l (lit≤ tt)))

    field : b % 2 ^ 31 / 2 ^ 23 ≡ 0
    field = ap (λ (z : ℕ). z / 2 ^ 23) (mod-eq_of_lt (lt_of_lt_of_le l (lit≤ tt))) ∙ omega arith

    fields : of_fields binary32 (leb (2 ^ 31) b) (b % 2 ^ 31 / 2 ^ 23) (b % 2 ^ 23) ≡ odd 24 false b 0 149
    fields = ap₂ (λ (s : Bool) (z : ℕ). of_fields binary32 s z (b % 2 ^ 23)) sign field ∙ ap (λ (t : ℕ). odd 24 false t 0 149) (mod-eq_of_lt l)

-- the value of a pattern in smallest units: some number, above 0 where the pattern is
record Valued (b : ℕ) : Type 0 where
  pub units : ℕ
  pub is : HasValue (f32 b) false units (2 ^ 149)
  pub some : least_positive ≤ b → 0 < units

valued : (b : ℕ) → b ≤ largest_finite → Valued b
valued b l = ⊎_elim normal low (le_or_lt (2 ^ 23) b)
  where
    normal : 2 ^ 23 ≤ b → Valued b
    normal m = record { units = digits b * 2 ^ power b; is = value b m (lt_of_le_of_lt l (lit< tt)); some = λ _. mul-pos (lt_of_lt_of_le (lit< tt) least) (pow_pos (power b)) }
      where
        least : 2 ^ 23 ≤ digits b
        least = omega arith

    low : b < 2 ^ 23 → Valued b
    low m = record { units = b * 2 ^ 0; is = low_value b m; some = λ p. mul-pos p (pow_pos 0) }

plain_of : (x : Float) (a c : ℕ) → HasValue x false a c → Plain x
unfolding abs_of
plain_of nan a c h = absurd h
plain_of (inf s) a c h = absurd h
plain_of (fin true m e) a c h = absurd (true≢false h.0)
plain_of (fin false m e) a c h = record { ends = refl; clear = refl }

above_of : (x : Float) (a c : ℕ) → HasValue x false a c → 0 < a → lt nil x ≡ true
above_of nan a c h l = absurd h
above_of (inf s) a c h l = absurd h
above_of (fin true m e) a c h l = absurd (true≢false h.0)
above_of (fin false m e) a c h l =
    fin_lt false 0 (pos 0) false m e (record { cross = omega (arith, first_pos (m * up e) c (subst (λ (k : ℕ). 0 < k) (sym h.1) (mul-pos l (down_pos e)))) })

plain_in : (b : ℕ) → b ≤ largest_finite → Plain (f32 b)
plain_in b l = let v = valued b l in plain_of (f32 b) v.units (2 ^ 149) v.is

above_in : (b : ℕ) → least_positive ≤ b → b ≤ largest_finite → lt nought (f32 b) ≡ true
above_in b p l = let v = valued b l in subst (λ (z : Float). lt z (f32 b) ≡ true) (sym (zero_is binary32)) (above_of (f32 b) v.units (2 ^ 149) v.is (v.some p))

largest_below : lt (f32 largest_angle) whole_turn ≡ true
unfolding lt of_bits
largest_below = refl

up_to_largest : (b : ℕ) → b ≤ largest_angle → le (f32 b) (f32 largest_angle) ≡ true
up_to_largest b l = is_true (le (f32 b) (f32 largest_angle)) (⊎_elim normal low (le_or_lt (2 ^ 23) b))
  where
    largest : HasValue (f32 largest_angle) false (digits largest_angle * 2 ^ power largest_angle) (2 ^ 149)
    largest = value largest_angle (lit≤ tt) (lit< tt)

    normal : 2 ^ 23 ≤ b → T (le (f32 b) (f32 largest_angle))
    normal m =
        le_of_values (f32 b) (f32 largest_angle) (digits b * 2 ^ power b) (2 ^ 149) (digits largest_angle * 2 ^ power largest_angle) (2 ^ 149) (pow_pos 149) (pow_pos 149)
        (value b m (lt_of_le_of_lt l (lit< tt))) largest (mul-le-mul_right (2 ^ 149) (rising b largest_angle m l))

    low : b < 2 ^ 23 → T (le (f32 b) (f32 largest_angle))
    low m =
        le_of_values (f32 b) (f32 largest_angle) (b * 2 ^ 0) (2 ^ 149) (digits largest_angle * 2 ^ power largest_angle) (2 ^ 149) (pow_pos 149) (pow_pos 149)
        (low_value b m) largest (mul-le-mul_right {n = digits largest_angle * 2 ^ power largest_angle} (2 ^ 149) (le_trans (le_of_eq (mul-one b)) (le_trans (le_of_lt m) (lit≤ tt))))

angle_in : (b : ℕ) → b ≤ largest_angle → lt (f32 b) whole_turn ≡ true
angle_in b l = le_lt_trans (f32 b) (f32 largest_angle) whole_turn (up_to_largest b l) largest_below

-- ---- from the float to the bits

module _ (b : ℕ) (small : b < 2 ^ 32) (plain : Plain (f32 b)) where
  bits_are : bits_of (f32 b) ≡ b
  bits_are = to_bits-of_bits binary32 b small (finite_no_nan (f32 b) plain.ends)

  plain_out : b ≤ largest_finite
  plain_out = subst (λ (n : ℕ). n ≤ largest_finite) bits_are (finite_bits (f32 b) (of_bits-fits binary32 b) plain.ends plain.clear)

  above_out : lt nought (f32 b) ≡ true → least_positive ≤ b
  above_out l = subst (λ (n : ℕ). least_positive ≤ n) bits_are (bits_above (f32 b) (of_bits-fits binary32 b) plain.ends plain.clear (subst (λ (z : Float). lt z (f32 b) ≡ true) (zero_is binary32) l))

  angle_out : lt (f32 b) whole_turn ≡ true → b ≤ largest_angle
  angle_out l = under (subst (λ (n : ℕ). n < 0x43b4_0000) bits_are (bits_below (f32 b) (of_bits-fits binary32 b) plain.ends plain.clear 0x43b4_0000 (lit≤ tt) l))
    where
      under : b < 0x43b4_0000 → b ≤ largest_angle
      under h = omega (arith, h)

pub float_rule : FloatRule
float_rule =
    record {
      plain_in = plain_in;
      plain_out = plain_out;
      above_in = above_in;
      above_out = above_out;
      angle_in = angle_in;
      angle_out = angle_out;
    }
