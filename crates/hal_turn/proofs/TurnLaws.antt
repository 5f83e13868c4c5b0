-- The laws of sine and cosine: in -1 to 1, and exact at quarter turns. Assumes nothing.
use mathlib.Core.Path.{◌≡◌, refl, sym, ap, ◌∙◌, subst}
use mathlib.Core.Bool.{Bool, true, false, ◌&&◌, ◌||◌, cond}
use Prim.Native.Nat.{ℕ, ◌+◌, ◌*◌, ◌≤◌, ◌<◌, zero-le}
use native.Mathlib.Nat.{le_trans, le_of_eq, le_of_lt, zero-mul, mul-one, eq-or-lt_of_le}
use native.Mathlib.Omega.{arith}
use lib.IntN.{pos}
use lib.Dec.{T, ltb, eqb, ltb→lt, lt→ltb, eqb_refl, lit≤}
use mathlib.Core.Logic.{inl, inr}
use lib.Ieee.Fits.{down_pos}
use lib.Ieee.{Float, nan, inf, fin, binary32, up, down, lt, le, neg, sub, mul, round, of_bits}
use lib.Ieee.Bits.{is_true}
use Rattle.ieee.specs.Numbers.{nought, one, minus_one, quarter_turn, half_turn, three_quarter_turn, whole_turn}
use Rattle.hal_turn.specs.Turn.{hold_of, negated_of, quarter_sine_of, sin_of, cos_of, in_turn}
use Rattle.hal.proofs.Range.{Within, le_of}

pub zero_within : (hi : ℕ) → Within 0 hi (fin false 0 (pos 0))
zero_within hi = (lit≤ tt, zero-le)

-- ---- what is held lies in 0 to its top, a whole number H
pub hold_within : (p : Float) (n : ℕ) (H : ℕ) → H ≡ n → Within 0 H (hold_of p (fin false n (pos 0)))
unfolding hold_of lt of_bits
hold_within nan n H e = zero_within H
hold_within (inf true) n H e = zero_within H
hold_within (inf false) n H e = (zero-le, le_of_eq (ap (λ (z : ℕ). z * 1) (sym e)))
hold_within (fin true m d) n H e = zero_within H
hold_within (fin false m d) n H e = go (ltb (0 * 1 * down d) (m * up d * 1)) (ltb (m * up d * 1) (n * 1 * down d)) (ltb→lt (m * up d * 1) (n * 1 * down d))
  where
    go : (a b : Bool) → (T b → m * up d * 1 < n * 1 * down d) → Within 0 H (cond a (cond b (fin false m d) (fin false n (pos 0))) (fin false 0 (pos 0)))
    go false b f = zero_within H
    go true false f = (zero-le, le_of_eq (ap (λ (z : ℕ). z * 1) (sym e)))
    go true true f = (
      le_trans (le_of_eq (zero-mul (down d))) zero-le,
      le_trans (le_of_eq (sym (mul-one (m * up d)))) (le_trans (le_of_lt (f tt)) (le_of_eq (ap (λ (z : ℕ). z * down d) (mul-one n ∙ sym e)))),
    )

quarter_sine_within : (a : Float) → Within 0 1 (quarter_sine_of a)
unfolding quarter_sine_of of_bits
quarter_sine_within a = hold_within (mul binary32 a _) 1 1 refl

-- ---- in -1 to 1
abbrev pub Unit : Float → Type 0
Unit r = T (le (fin true 1 (pos 0)) r) × T (le r (fin false 1 (pos 0)))

or_l : (a b : Bool) → T a → T (a || b)
or_l true b t = tt
or_l false b t = absurd t

le_bool : (a b : ℕ) → b ≤ a → T (ltb b a || (eqb a b && true))
le_bool a b h = elim (eq-or-lt_of_le h) [
  | inl e ↦ or_r (ltb b a) (eqb a b && true) (both (eqb a b) (subst (λ (z : ℕ). T (eqb a z)) (sym e) (eqb_refl a)))
  | inr l ↦ or_l (ltb b a) (eqb a b && true) (lt→ltb b a l)
]
  where
    or_r : (a b : Bool) → T b → T (a || b)
    or_r true b t = tt
    or_r false b t = t

    both : (x : Bool) → T x → T (x && true)
    both true t = tt
    both false t = t

unit_plain : (v : Float) → Within 0 1 v → Unit v
unfolding le
unit_plain nan w = absurd w
unit_plain (inf s) w = absurd w
unit_plain (fin true m e) w = absurd w
unit_plain (fin false m e) w = (
  or_l (ltb 0 (1 * 1 * down e + m * up e * 1)) _ (lt→ltb 0 (1 * 1 * down e + m * up e * 1) (let p : 0 < down e = down_pos e in omega arith)),
  le_of (fin false m e) (fin false 1 (pos 0)) 0 1 w (refl, refl),
)

unit_neg : (v : Float) → Within 0 1 v → Unit (neg v)
unfolding le neg
unit_neg nan w = absurd w
unit_neg (inf s) w = absurd w
unit_neg (fin true m e) w = absurd w
unit_neg (fin false m e) w = (
  le_bool (1 * 1 * down e) (m * up e * 1) (let p : m * up e ≤ 1 * down e = w.1 in omega arith),
  or_l (ltb 0 (m * up e * 1 + 1 * 1 * down e)) _ (lt→ltb 0 (m * up e * 1 + 1 * 1 * down e) (let p : 0 < down e = down_pos e in omega arith)),
)

unit_negated : (v : Float) → Within 0 1 v → Unit (negated_of v)
unfolding negated_of of_bits
unit_negated v w = go (lt (fin false 0 (pos 0)) v)
  where
    go : (b : Bool) → Unit (cond b (neg v) (fin false 0 (pos 0)))
    go true = unit_neg v w
    go false = unit_plain (fin false 0 (pos 0)) (zero_within 1)

unit_sine : (a : Float) → Unit (quarter_sine_of a)
unit_sine a = unit_plain (quarter_sine_of a) (quarter_sine_within a)

unit_negative_sine : (a : Float) → Unit (negated_of (quarter_sine_of a))
unit_negative_sine a = unit_negated (quarter_sine_of a) (quarter_sine_within a)

four : (a b c : Bool) (x y z w : Float) → Unit x → Unit y → Unit z → Unit w → Unit (cond a x (cond b y (cond c z w)))
four true b c x y z w p q r s = p
four false true c x y z w p q r s = q
four false false true x y z w p q r s = r
four false false false x y z w p q r s = s

pub sin_in : (d : Float) → T (in_turn d) → Unit (sin_of d)
unfolding sin_of
sin_in d h =
    rw (is_true (in_turn d) h)
    (four (le d quarter_turn) (le d half_turn) (le d three_quarter_turn) (quarter_sine_of d) (quarter_sine_of (sub binary32 half_turn d)) (negated_of (quarter_sine_of (sub binary32 d half_turn))) (negated_of (quarter_sine_of (sub binary32 whole_turn d)))
    (unit_sine d) (unit_sine (sub binary32 half_turn d)) (unit_negative_sine (sub binary32 d half_turn)) (unit_negative_sine (sub binary32 whole_turn d)))

pub cos_in : (d : Float) → T (in_turn d) → Unit (cos_of d)
unfolding cos_of
cos_in d h =
    rw (is_true (in_turn d) h)
    (four (le d quarter_turn) (le d half_turn) (le d three_quarter_turn) (quarter_sine_of (sub binary32 quarter_turn d)) (negated_of (quarter_sine_of (sub binary32 d quarter_turn))) (negated_of (quarter_sine_of (sub binary32 three_quarter_turn d))) (quarter_sine_of (sub binary32 d three_quarter_turn))
    (unit_sine (sub binary32 quarter_turn d)) (unit_negative_sine (sub binary32 d quarter_turn)) (unit_negative_sine (sub binary32 three_quarter_turn d)) (unit_sine (sub binary32 d three_quarter_turn)))

-- ---- quarter turns: 0, 90, 180, 270 and 360
pub sin_quarters : (sin_of nought ≡ nought) × (sin_of quarter_turn ≡ one) × (sin_of half_turn ≡ nought) × (sin_of three_quarter_turn ≡ minus_one) × (sin_of whole_turn ≡ nought)
unfolding sin_of quarter_sine_of negated_of hold_of le lt neg sub mul round of_bits
sin_quarters = (refl, refl, refl, refl, refl)

pub cos_quarters : (cos_of nought ≡ one) × (cos_of quarter_turn ≡ nought) × (cos_of half_turn ≡ minus_one) × (cos_of three_quarter_turn ≡ nought) × (cos_of whole_turn ≡ one)
unfolding cos_of quarter_sine_of negated_of hold_of le lt neg sub mul round of_bits
cos_quarters = (refl, refl, refl, refl, refl)
