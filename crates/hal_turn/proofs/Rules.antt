-- The rules of specs/Rules.antt hold. Assumes nothing.
use mathlib.Core.Path.{◌≡◌, refl}
use mathlib.Core.Bool.{Bool, true, false, cond}
use lib.IntN.{pos}
use lib.Dec.{T}
use lib.Ieee.{Float, nan, fin, binary32, lt, le, neg, mul, sub, of_bits, fits}
use lib.Ieee.Fits.{cond-fits, nan-fits, neg-fits, mul-fits}
use Rattle.ieee.specs.Numbers.{nought, one, minus_one, quarter_turn, half_turn, three_quarter_turn, whole_turn}
use Rattle.hal.proofs.Rules.{otherwise}
use Rattle.hal_turn.specs.Turn.{hold_of, negated_of, quarter_sine_of, in_turn, sin_of, cos_of}
use Rattle.hal_turn.specs.Rules.{SineRule, CosineRule}
use Rattle.hal_turn.proofs.TurnLaws.{sin_in, cos_in, sin_quarters, cos_quarters}

-- ---- the named numbers are what their page says
pub named : (minus_one ≡ fin true 1 (pos 0)) × (quarter_turn ≡ fin false 45 (pos 1)) × (half_turn ≡ fin false 45 (pos 2)) × (three_quarter_turn ≡ fin false 135 (pos 1)) × (whole_turn ≡ fin false 45 (pos 3))
unfolding of_bits
named = (refl, refl, refl, refl, refl)

-- ---- each answer is an f32
hold_fits : (p t : Float) → T (fits binary32 p) → T (fits binary32 t) → T (fits binary32 (hold_of p t))
unfolding hold_of fits of_bits
hold_fits p t h k = cond-fits binary32 (lt nought p) (cond (lt p t) p t) nought (cond-fits binary32 (lt p t) p t h k) tt

quarter_sine_fits : (a : Float) → T (fits binary32 (quarter_sine_of a))
unfolding quarter_sine_of of_bits
quarter_sine_fits a = hold_fits (mul binary32 a _) one (mul-fits binary32 a _) (unfold fits in tt)

negated_fits : (v : Float) → T (fits binary32 v) → T (fits binary32 (negated_of v))
unfolding negated_of of_bits
negated_fits v h = cond-fits binary32 (lt nought v) (neg v) nought (neg-fits binary32 v h) (unfold fits in tt)

four_fits : (a b c d : Bool) (x y z w : Float) → T (fits binary32 x) → T (fits binary32 y) → T (fits binary32 z) → T (fits binary32 w) → T (fits binary32 (cond a (cond b x (cond c y (cond d z w))) nan))
four_fits a b c d x y z w p q r s =
    cond-fits binary32 a (cond b x (cond c y (cond d z w))) nan (cond-fits binary32 b x (cond c y (cond d z w)) p (cond-fits binary32 c y (cond d z w) q (cond-fits binary32 d z w r s))) (nan-fits binary32)

sin_fits : (d : Float) → T (fits binary32 (sin_of d))
unfolding sin_of
sin_fits d =
    four_fits (in_turn d) (le d quarter_turn) (le d half_turn) (le d three_quarter_turn) (quarter_sine_of d) (quarter_sine_of (sub binary32 half_turn d)) (negated_of (quarter_sine_of (sub binary32 d half_turn))) (negated_of (quarter_sine_of (sub binary32 whole_turn d)))
    (quarter_sine_fits d) (quarter_sine_fits (sub binary32 half_turn d)) (negated_fits (quarter_sine_of (sub binary32 d half_turn)) (quarter_sine_fits (sub binary32 d half_turn))) (negated_fits (quarter_sine_of (sub binary32 whole_turn d)) (quarter_sine_fits (sub binary32 whole_turn d)))

cos_fits : (d : Float) → T (fits binary32 (cos_of d))
unfolding cos_of
cos_fits d =
    four_fits (in_turn d) (le d quarter_turn) (le d half_turn) (le d three_quarter_turn) (quarter_sine_of (sub binary32 quarter_turn d)) (negated_of (quarter_sine_of (sub binary32 d quarter_turn))) (negated_of (quarter_sine_of (sub binary32 three_quarter_turn d))) (quarter_sine_of (sub binary32 d three_quarter_turn))
    (quarter_sine_fits (sub binary32 quarter_turn d)) (negated_fits (quarter_sine_of (sub binary32 d quarter_turn)) (quarter_sine_fits (sub binary32 d quarter_turn))) (negated_fits (quarter_sine_of (sub binary32 three_quarter_turn d)) (quarter_sine_fits (sub binary32 three_quarter_turn d))) (quarter_sine_fits (sub binary32 d three_quarter_turn))

sin_outside : (d : Float) → in_turn d ≡ false → sin_of d ≡ nan
unfolding sin_of
sin_outside d e = otherwise (in_turn d) _ e

cos_outside : (d : Float) → in_turn d ≡ false → cos_of d ≡ nan
unfolding cos_of
cos_outside d e = otherwise (in_turn d) _ e

pub sine_rule : SineRule
unfolding of_bits
sine_rule = record {
  within = λ d t. let p = sin_in d t in record { least = p.0; most = p.1 };
  at_0 = sin_quarters.0;
  at_90 = sin_quarters.1;
  at_180 = sin_quarters.2;
  at_270 = sin_quarters.3;
  at_360 = sin_quarters.4;
  outside = sin_outside;
  held = sin_fits;
}

pub cosine_rule : CosineRule
unfolding of_bits
cosine_rule = record {
  within = λ d t. let p = cos_in d t in record { least = p.0; most = p.1 };
  at_0 = cos_quarters.0;
  at_90 = cos_quarters.1;
  at_180 = cos_quarters.2;
  at_270 = cos_quarters.3;
  at_360 = cos_quarters.4;
  outside = cos_outside;
  held = cos_fits;
}
