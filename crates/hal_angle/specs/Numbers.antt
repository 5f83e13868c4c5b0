-- The numbers that the angle names beside the page of plain ones (`ieee/specs/Numbers.antt`). Definitions only.
use Rattle.std.specs.Prelude.{Float}
use Rattle.ieee.specs.F32.{f32}

-- 359.99997, the largest value below 360
abbrev pub last_angle : Float
last_angle = f32 0x43b3_ffff

-- 135, 225 and 315: three, five and seven eighths of a turn
abbrev pub three_eighth_turn : Float
three_eighth_turn = f32 0x4307_0000

abbrev pub five_eighth_turn : Float
five_eighth_turn = f32 0x4361_0000

abbrev pub seven_eighth_turn : Float
seven_eighth_turn = f32 0x439d_8000

-- 63 and -63
abbrev pub steps63 : Float
steps63 = f32 0x427c_0000

abbrev pub minus_steps63 : Float
minus_steps63 = f32 0xc27c_0000

-- 12582975, which is 3 * 2 ^ 22 + 63: the floats beside it are whole numbers, and what is added to it is rounded to one
abbrev pub shift : Float
shift = f32 0x4b40_003f
