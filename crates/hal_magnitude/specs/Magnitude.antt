-- The magnitude of a pair, on the angle's range: the root of dx * dx, fused with the rounded dy * dy (rule F8). Definitions only.
use Rattle.std.specs.Prelude.{cond, Float}
use Rattle.std.specs.Float.{nan}
use Rattle.ieee.specs.F32.{◌⊗◌, fused, root_of}
use Rattle.hal_reach.specs.Reach.{in_angle}

unfoldable pub magnitude_of : Float → Float → Float
magnitude_of dx dy = cond (in_angle dx dy) (root_of (fused dx dx (dy ⊗ dy))) nan
