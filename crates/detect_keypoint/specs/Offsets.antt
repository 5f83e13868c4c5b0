-- What is asked of an offset: whether a cell settles with it, rule D8, and to which whole number it is rounded. Definitions only.
use Rattle.std.specs.Prelude.{Bool, ◌&&◌, ℤ, Float}
use Rattle.ieee.specs.F32.{◌<ᶠ◌, abs_of, rounded, to_i32}
use Rattle.ieee.specs.Numbers.{half}
use Rattle.detect_fit.specs.declared.Offset.{Offset}

-- all three offsets are below 0.5 in magnitude
unfoldable pub small : Offset → Bool
small o = (abs_of o.xi <ᶠ half) && ((abs_of o.xr <ᶠ half) && (abs_of o.xc <ᶠ half))

-- the source's `cv_round`: to the nearest whole number, ties to even, then `as i32`, which stops at the ends of the range and takes a not-a-number as 0
abbrev pub cv_round : Float → ℤ
cv_round x = to_i32 (rounded x)
