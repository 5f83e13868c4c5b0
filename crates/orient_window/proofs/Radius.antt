-- Bounds of the radius. Assumes nothing.
use Rattle.std.proofs.Common.{◌≡◌, true, refl, arith}
use lib.Ieee.{Float, binary32, of_bits, mul, lt, le, to_unsigned}
use Rattle.ieee.specs.F32.{◌⊗◌, rounded}
use Rattle.ieee.specs.Whole.{round_even}
use Rattle.ieee_laws.proofs.Bounds.{Bounds, bounds_point, mul_bounds, round_even_bounds}
use Rattle.ieee_laws.proofs.Cuts.{Cuts, cuts}
use Rattle.params.specs.Limits.{scale_low, scale_high}
use Rattle.params.specs.Table.{within}
use Rattle.params.proofs.Within.{scale_bounds}
use Rattle.orient_window.specs.Window.{radius_factor}
use Rattle.orient_window.specs.Place.{max_reach}

pub radius_bounds : (s : Float) → within scale_low scale_high s ≡ true → Bounds (rounded (radius_factor ⊗ scale_low)) (rounded (radius_factor ⊗ scale_high)) (rounded (radius_factor ⊗ s))
unfolding of_bits mul le round_even
radius_bounds s h = round_even_bounds binary32 refl refl (mul_bounds binary32 refl refl refl refl (bounds_point radius_factor refl) (scale_bounds s h))

pub radius_cuts : (s : Float) → within scale_low scale_high s ≡ true → Cuts max_reach (rounded (radius_factor ⊗ s))
unfolding of_bits mul lt round_even to_unsigned
radius_cuts s h = cuts max_reach refl refl (omega arith) (radius_bounds s h)
