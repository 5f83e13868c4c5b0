-- The plain numbers that rules and definitions name, each with its decimal and its bits: one name for one number. A number that belongs to one rule alone stands
-- with that rule. Definitions only.
use Rattle.std.specs.Prelude.{Float}
use Rattle.ieee.specs.F32.{f32}

-- 0
abbrev pub nought : Float
nought = f32 0

-- 0.5
abbrev pub half : Float
half = f32 0x3f00_0000

-- 1
abbrev pub one : Float
one = f32 0x3f80_0000

-- -1
abbrev pub minus_one : Float
minus_one = f32 0xbf80_0000

-- 1.41421354, the square root of 2
abbrev pub root2 : Float
root2 = f32 0x3fb5_04f3

-- 1.5
abbrev pub three_halves : Float
three_halves = f32 0x3fc0_0000

-- 2
abbrev pub two : Float
two = f32 0x4000_0000

-- 3
abbrev pub three : Float
three = f32 0x4040_0000

-- 4
abbrev pub four : Float
four = f32 0x4080_0000

-- 5
abbrev pub five : Float
five = f32 0x40a0_0000

-- 10
abbrev pub ten : Float
ten = f32 0x4120_0000

-- 45, an eighth of a turn in degrees
abbrev pub eighth_turn : Float
eighth_turn = f32 0x4234_0000

-- 90, a quarter
abbrev pub quarter_turn : Float
quarter_turn = f32 0x42b4_0000

-- 180, half a turn
abbrev pub half_turn : Float
half_turn = f32 0x4334_0000

-- 255, the largest byte
abbrev pub top_byte : Float
top_byte = f32 0x437f_0000

-- 270, three quarters of a turn
abbrev pub three_quarter_turn : Float
three_quarter_turn = f32 0x4387_0000

-- 360, a whole turn in degrees
abbrev pub whole_turn : Float
whole_turn = f32 0x43b4_0000

-- 2 ^ -23, how far the next f32 above 1 lies from it
abbrev pub epsilon : Float
epsilon = f32 0x3400_0000
