-- Law: what rule F8 asks of the magnitude, of the definition beside this page; and what callers ask besides.
-- proofs/Rules.antt proves it: `magnitude_rule : MagnitudeRule`. Accuracy (rule F9) is no statement here: `run_hal` measures it. Definitions only.
use Rattle.std.specs.Prelude.{◌≡◌, false, T, pos, Float}
use Rattle.std.specs.Float.{nan, fin, binary32}
use Rattle.std.specs.Float.Ieee.{fits}
use Rattle.ieee.specs.F32.{◌⊗◌, ◌=ᶠ◌, fused, root_of}
use Rattle.ieee.specs.Numbers.{nought}
use Rattle.hal.specs.Rules.{In}
use Rattle.hal_reach.specs.Reach.{in_angle}
use Rattle.hal_magnitude.specs.Magnitude.{magnitude_of}

pub record MagnitudeRule : Type 0 where
  pub root : (dx dy : Float) → T (in_angle dx dy) → magnitude_of dx dy ≡ root_of (fused dx dx (dy ⊗ dy))
  -- 2 ^ 22 is a bound that is never reached
  pub within : (dx dy : Float) → T (in_angle dx dy) → In nought (fin false 1 (pos 22)) (magnitude_of dx dy)
  pub none : (dx dy : Float) → T (in_angle dx dy) → T (dx =ᶠ nought) → T (dy =ᶠ nought) → magnitude_of dx dy ≡ nought
  pub outside : (dx dy : Float) → in_angle dx dy ≡ false → magnitude_of dx dy ≡ nan
  pub held : (dx dy : Float) → T (fits binary32 (magnitude_of dx dy))
