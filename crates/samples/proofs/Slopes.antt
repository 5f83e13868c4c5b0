-- Of good samples each slope lies in the range of the angle and of the magnitude. Assumes nothing.
use Prim.Native.Nat.{ℕ, ◌+◌, ◌-◌}
use mathlib.Core.Path.{◌≡◌, refl, ◌∙◌}
use mathlib.Core.Bool.{true, false}
use mathlib.Core.List.{List, [], ◌∷◌}
use lib.IntN.{pos}
use lib.Ieee.{Float, nan, inf, fin, binary32, of_bits, neg, sub, le, is_nan}
use Rattle.lists.proofs.Bools.{and_both}
use Rattle.ieee.specs.F32.{◌⊖◌, abs_of}
use Rattle.ieee_laws.specs.Sign.{Turned, of_inf, of_fin, turned}
use Rattle.ieee_laws.proofs.Order.{le_number}
use Rattle.ieee_laws.proofs.Bounds.{Bounds, bounds_wider, sub_bounds}
use Rattle.ieee_laws.proofs.Turned.{le_turned}
use Rattle.params.specs.Limits.{sample_limit}
use Rattle.params.specs.Table.{good_sample, all_good}
use Rattle.params.proofs.Within.{within_bounds}
use Rattle.hal_reach.specs.Reach.{furthest, in_reach, in_angle}
use Rattle.picture.specs.Picture.{pixel, slope_at, four_at}

abbrev nearest : Float
nearest = fin true 1 (pos 21)

far_opp : Turned true nearest furthest
unfolding of_bits
far_opp = of_fin (turned refl)

reach_of_lem : (x : Float) → le nearest x ≡ true → le x furthest ≡ true → in_reach (abs_of x) ≡ true
unfolding abs_of is_nan
reach_of_lem nan a b = absurd (le_number nan furthest b).0
reach_of_lem (inf true) a b = le_turned {b = true} (of_inf refl) far_opp ∙ a
reach_of_lem (inf false) a b = b
reach_of_lem (fin true m e) a b = le_turned {b = true} (of_fin (turned refl)) far_opp ∙ a
reach_of_lem (fin false m e) a b = b

good_bounds : (x : Float) → good_sample x ≡ true → Bounds (neg sample_limit) sample_limit x
unfolding of_bits neg
good_bounds x h = within_bounds (neg sample_limit) sample_limit x refl refl h

difference : (x y : Float) → good_sample x ≡ true → good_sample y ≡ true → in_reach (abs_of (x ⊖ y)) ≡ true
unfolding of_bits neg sub le
difference x y a b =
    let u = bounds_wider nearest furthest refl refl refl refl (sub_bounds binary32 refl refl (good_bounds x a) (good_bounds y b)) in
    reach_of_lem (x ⊖ y) u.low u.high

slopes_in : (a b c d : Float) → all_good (a ∷ b ∷ c ∷ d ∷ []) ≡ true → in_angle (a ⊖ b) (c ⊖ d) ≡ true
unfolding all_good
slopes_in a b c d h =
    let p = and_both (good_sample a) _ h in
    let q = and_both (good_sample b) _ p.1 in
    let r = and_both (good_sample c) _ q.1 in
    let s = and_both (good_sample d) _ r.1 in
    rw (difference a b p.0 q.0, difference c d r.0 s.0)

pub good_slope : (img : List Float) (w r c : ℕ) → all_good (four_at img w r c) ≡ true → in_angle (slope_at img w r c).dx (slope_at img w r c).dy ≡ true
unfolding four_at slope_at
good_slope img w r c h = slopes_in (pixel img w r (c + 1)) (pixel img w r (c - 1)) (pixel img w (r - 1) c) (pixel img w (r + 1) c) h
