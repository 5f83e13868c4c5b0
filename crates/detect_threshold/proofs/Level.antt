-- The bounds of the level and of the threshold, of a contrast and layers that the table accepts. Assumes nothing.
use Rattle.std.proofs.Common.{◌≡◌, ◌∙◌, ap, sym, ℕ, ◌*◌, ◌≤◌, arith, true, false, pos, refl}
use Rattle.std.specs.Float as Lib
use Rattle.std.specs.Float.{round_with}
use lib.Ieee.Fits.{down_pos}
use lib.Ieee.{Float, nan, inf, fin, binary32, binary64, up, of_bits, of_int, mul, div, le, round}
use Rattle.ieee.specs.Fused.{convert}
use Rattle.ieee.specs.Whole.{floor}
use Rattle.ieee.specs.F32.{f32}
use Rattle.ieee.specs.Numbers.{nought}
use Rattle.ieee_laws.proofs.Monotone.{nil}
use Rattle.ieee_laws.proofs.Order.{le_fin}
use Rattle.ieee_laws.proofs.TurnedOps.{floor_size_zero}
use Rattle.ieee_laws.proofs.Bounds.{Bounds, bounds_point, mul_bounds, mul_bounds_by, div_bounds, floor_bounds, convert_bounds, of_int_bounds}
use Rattle.params.specs.Limits.{max_layers, contrast_low, contrast_high}
use Rattle.params.specs.Table.{contrast_wrong}
use Rattle.params.proofs.Accepted.{contrast_bounds}
use Rattle.detect_threshold.specs.Threshold.{half64, full64, level_of, threshold_of}

module _ (contrast : Float) (right : contrast_wrong contrast ≡ false) (layers : ℕ) (some : 1 ≤ layers) (few : layers ≤ max_layers) where
  -- 127.5
  abbrev most : Float
  most = of_bits binary64 0x405f_e000_0000_0000

  abbrev level : Float
  level = level_of contrast layers

  pub level_bounds : Bounds nil most level
  unfolding of_bits mul div of_int le
  level_bounds =
      mul_bounds_by binary64 {a = nil} {b = half64} full64 refl refl refl refl
      (div_bounds binary64 {a = nil} {b = half64} {c = of_int binary64 (pos 1)} {d = of_int binary64 (pos 15)} refl refl refl refl
      (mul_bounds binary64 {a = half64} {b = half64} {c = contrast_low} {d = contrast_high} refl refl refl refl (bounds_point half64 refl) (contrast_bounds contrast right))
      (of_int_bounds binary64 1 15 layers refl refl some few))

  -- the threshold lies in 0 to 127
  pub threshold_bounds : Bounds nought (f32 0x42fe_0000) (threshold_of contrast layers)
  unfolding threshold_of of_bits floor convert
  threshold_bounds = convert_bounds binary32 {a = nil} {b = of_bits binary64 0x405f_c000_0000_0000} refl refl (floor_bounds binary64 {a = nil} {b = most} refl refl level_bounds)

-- what is cut off at the point is the floor, of what is not below zero
pub trunc_is : (x : Float) → le nil x ≡ true → Lib.trunc binary64 x ≡ floor binary64 x
unfolding floor round_with le
trunc_is nan h = refl
trunc_is (inf s) h = refl
trunc_is (fin false m e) h = refl
trunc_is (fin true m e) h =
    let l = (le_fin false 0 (pos 0) true m e h).cross in
    let y : m * up e ≡ 0 = omega arith in
    ap (λ (k : ℕ). round binary64 true k 1) (floor_size_zero false _ _ (down_pos e) y ∙ sym (floor_size_zero true _ _ (down_pos e) y))
