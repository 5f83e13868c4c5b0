-- The rule of specs/Rules.antt holds. Assumes nothing.
use mathlib.Core.Path.{◌≡◌, refl, sym, subst}
use mathlib.Core.Bool.{Bool, true, false}
use lib.IntN.{pos, negsuc}
use lib.Dec.{T}
use lib.Ieee.{Float, nan, fin, binary32, lt, le, eq, mul, of_bits, fits}
use lib.Ieee.Fits.{cond-fits, nan-fits, add-fits}
use Rattle.ieee.specs.Numbers.{nought, eighth_turn}
use Rattle.hal.specs.Rules.{In}
use Rattle.hal.proofs.Rules.{otherwise}
use Rattle.hal_reach.specs.Reach.{in_angle}
use Rattle.hal_reach.proofs.Reach.{reach_dx, reach_dy}
use Rattle.hal_angle.specs.Numbers.{last_angle, three_eighth_turn, five_eighth_turn, seven_eighth_turn, steps63, minus_steps63, shift}
use Rattle.bounds.specs.Bounds.{lesser_of, greater_of}
use Rattle.hal_angle.specs.Angle.{quarter_of, line_of, along_of, direction_of, sum_of, ahead_of, angle_of}
use Rattle.hal_angle.specs.Rules.{AngleRule, start_of, end_of}
use Rattle.hal_angle.proofs.AngleLaws.{by_sum, direction_in, angle_least, angle_below}
use Rattle.hal_angle.proofs.AngleValues.{none_num}
use Rattle.hal_angle.proofs.AngleUnits.{level_none}
use Rattle.hal_angle.proofs.AngleAxes.{angle_east, angle_north, angle_west, angle_south, angle_none}
use Rattle.hal_angle.proofs.AngleDoubled.{angle_double}

-- ---- the named numbers are what their page says
pub named : (eighth_turn ≡ fin false 45 (pos 0)) × (last_angle ≡ fin false 11796479 (negsuc 14)) × (three_eighth_turn ≡ fin false 135 (pos 0)) × (five_eighth_turn ≡ fin false 225 (pos 0)) × (seven_eighth_turn ≡ fin false 315 (pos 0)) × (steps63 ≡ fin false 63 (pos 0)) × (minus_steps63 ≡ fin true 63 (pos 0)) × (shift ≡ fin false 12582975 (pos 0))
unfolding of_bits
named = (refl, refl, refl, refl, refl, refl, refl, refl)

-- ---- the angle
along_fits : (middle u : Float) → T (fits binary32 (along_of middle u))
unfolding along_of line_of
along_fits middle u = add-fits binary32 _ _

held_fits : (lo hi q : Float) → T (fits binary32 lo) → T (fits binary32 hi) → T (fits binary32 q) → T (fits binary32 (lesser_of (greater_of lo q) hi))
held_fits lo hi q l h k = cond-fits binary32 (lt (greater_of lo q) hi) (greater_of lo q) hi (cond-fits binary32 (lt lo q) q lo k l) h

ends_fit : (left down : Bool) → T (fits binary32 (quarter_of left down).least) × T (fits binary32 (quarter_of left down).largest)
unfolding fits of_bits
ends_fit false false = (tt, tt)
ends_fit true false = (tt, tt)
ends_fit true true = (tt, tt)
ends_fit false true = (tt, tt)

direction_fits : (left down : Bool) (ahead : Float) → T (fits binary32 (direction_of (quarter_of left down) ahead))
unfolding direction_of
direction_fits left down ahead =
    let q = quarter_of left down in
    held_fits q.least q.largest (along_of q.middle (mul binary32 ahead q.steps)) (ends_fit left down).0 (ends_fit left down).1 (along_fits q.middle (mul binary32 ahead q.steps))

angle_fits : (dx dy : Float) → T (fits binary32 (angle_of dx dy))
unfolding angle_of of_bits
angle_fits dx dy =
    cond-fits binary32 (in_angle dx dy) _ nan (cond-fits binary32 (lt nought (sum_of dx dy)) (direction_of (quarter_of (lt dx nought) (lt dy nought)) (ahead_of dx dy)) nought (direction_fits (lt dx nought) (lt dy nought) (ahead_of dx dy)) (unfold fits in tt)) (nan-fits binary32)

angle_outside : (dx dy : Float) → in_angle dx dy ≡ false → angle_of dx dy ≡ nan
unfolding angle_of
angle_outside dx dy e = otherwise (in_angle dx dy) _ e

nought_first : In (start_of false false) (end_of false false) nought
unfolding le lt eq of_bits
nought_first = record { least = tt; most = tt }

angle_quarters : (dx dy : Float) → T (fits binary32 dx) → T (fits binary32 dy) → T (in_angle dx dy) → In (start_of (lt dx nought) (lt dy nought)) (end_of (lt dx nought) (lt dy nought)) (angle_of dx dy)
angle_quarters dx dy fx fy h =
    by_sum (In (start_of (lt dx nought) (lt dy nought)) (end_of (lt dx nought) (lt dy nought))) dx dy h
    (λ e.
    let n = level_none dx dy fx fy h e in
    subst (λ (b : Bool). In (start_of b (lt dy nought)) (end_of b (lt dy nought)) nought) (sym (none_num dx (reach_dx dx dy h) n.0).sign)
    (subst (λ (b : Bool). In (start_of false b) (end_of false b) nought) (sym (none_num dy (reach_dy dx dy h) n.1).sign) nought_first))
    (λ e. direction_in (lt dx nought) (lt dy nought) (ahead_of dx dy))

pub angle_rule : AngleRule
angle_rule = record {
  least = angle_least;
  below = angle_below;
  quarters = angle_quarters;
  east = angle_east;
  north = λ dx dy fx fy h. angle_north dx dy h fx fy;
  west = λ dx dy fx fy h. angle_west dx dy h fx fy;
  south = λ dx dy fx fy h. angle_south dx dy h fx fy;
  none = angle_none;
  doubled = angle_double;
  outside = angle_outside;
  held = angle_fits;
}
