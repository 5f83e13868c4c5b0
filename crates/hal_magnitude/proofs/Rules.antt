-- The rule of specs/Rules.antt holds. Assumes nothing.
use mathlib.Core.Path.{◌≡◌, refl}
use mathlib.Core.Bool.{false}
use lib.IntN.{pos}
use lib.Dec.{T}
use lib.Ieee.{Float, nan, fin, binary32, of_bits, fits}
use lib.Ieee.Fits.{cond-fits, nan-fits}
use Rattle.ieee.specs.F32.{◌⊗◌, fused}
use Rattle.ieee.specs.Numbers.{nought}
use Rattle.ieee.proofs.Held.{fma_fits, sqrt_fits}
use Rattle.hal.proofs.Rules.{in_of, otherwise}
use Rattle.hal_reach.specs.Reach.{in_angle}
use Rattle.hal_magnitude.specs.Magnitude.{magnitude_of}
use Rattle.hal_magnitude.specs.Rules.{MagnitudeRule}
use Rattle.hal_magnitude.proofs.MagnitudeLaws.{magnitude_is, magnitude_within, magnitude_none}

magnitude_fits : (dx dy : Float) → T (fits binary32 (magnitude_of dx dy))
unfolding magnitude_of
magnitude_fits dx dy = cond-fits binary32 (in_angle dx dy) _ nan (sqrt_fits binary32 (fused dx dx (dy ⊗ dy)) (fma_fits binary32 dx dx (dy ⊗ dy))) (nan-fits binary32)

magnitude_outside : (dx dy : Float) → in_angle dx dy ≡ false → magnitude_of dx dy ≡ nan
unfolding magnitude_of
magnitude_outside dx dy e = otherwise (in_angle dx dy) _ e

pub magnitude_rule : MagnitudeRule
unfolding of_bits
magnitude_rule = record {
  root = magnitude_is;
  within = λ dx dy h. in_of (magnitude_of dx dy) nought (fin false 1 (pos 22)) 0 4194304 (refl, refl) (refl, refl) (magnitude_within dx dy h);
  none = magnitude_none;
  outside = magnitude_outside;
  held = magnitude_fits;
}
