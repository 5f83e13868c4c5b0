-- The range of the angle and of the magnitude: neither is a not-a-number, and each is at most 2 ^ 21 in magnitude. Definitions only.
use Rattle.std.specs.Prelude.{Bool, ◌&&◌, Float}
use Rattle.ieee.specs.F32.{◌≤ᶠ◌, f32, abs_of}

-- 2 ^ 21
abbrev pub furthest : Float
furthest = f32 0x4a00_0000

abbrev pub in_reach : Float → Bool
in_reach a = a ≤ᶠ furthest

abbrev pub in_angle : Float → Float → Bool
in_angle dx dy = in_reach (abs_of dx) && in_reach (abs_of dy)
