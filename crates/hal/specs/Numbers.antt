-- The number that the exponential names beside the page of plain ones (`ieee/specs/Numbers.antt`). Definitions only.
use Rattle.std.specs.Prelude.{Float}
use Rattle.ieee.specs.F32.{f32}

-- -32
abbrev pub minus32 : Float
minus32 = f32 0xc200_0000
