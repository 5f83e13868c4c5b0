-- binary32's operations by short names: the one set that every definition above this crate is written in. Each is the operation of `lib.Ieee`, or of the
-- pages beside this one, at binary32. Definitions only.
use Rattle.std.specs.Prelude.{ℕ, Bool, false, ℤ, pos, Float}
use Rattle.std.specs.Float.{nan, inf, fin, binary32}
use Rattle.std.specs.Float.Ieee.{of_bits, to_bits, to_signed, of_int, add, sub, mul, div, lt, le, eq}
use Rattle.ieee.specs.Fused.{fma, convert}
use Rattle.ieee.specs.Root.{sqrt}
use Rattle.ieee.specs.Whole.{floor, round_even}

infixl 6 ◌⊕◌ ◌⊖◌
infixl 7 ◌⊗◌ ◌⊘◌
infix 4 ◌<ᶠ◌ ◌≤ᶠ◌ ◌=ᶠ◌
-- sum, difference, product and quotient, each rounded once
abbrev pub ◌⊕◌ : Float → Float → Float
x ⊕ y = add binary32 x y

abbrev pub ◌⊖◌ : Float → Float → Float
x ⊖ y = sub binary32 x y

abbrev pub ◌⊗◌ : Float → Float → Float
x ⊗ y = mul binary32 x y

abbrev pub ◌⊘◌ : Float → Float → Float
x ⊘ y = div binary32 x y

-- comparisons: false where a not-a-number stands, and the zeros are equal
abbrev pub ◌<ᶠ◌ : Float → Float → Bool
x <ᶠ y = lt x y

abbrev pub ◌≤ᶠ◌ : Float → Float → Bool
x ≤ᶠ y = le x y

abbrev pub ◌=ᶠ◌ : Float → Float → Bool
x =ᶠ y = eq x y

-- the float of a bit pattern: how constants are named
abbrev pub f32 : ℕ → Float
f32 b = of_bits binary32 b

-- a whole number as an f32, rounded once
abbrev pub float : ℕ → Float
float n = of_int binary32 (pos n)

abbrev pub float_z : ℤ → Float
float_z z = of_int binary32 z

-- x * y + z, rounded once
abbrev pub fused : Float → Float → Float → Float
fused x y z = fma binary32 x y z

abbrev pub root_of : Float → Float
root_of x = sqrt binary32 x

-- an f64 as an f32, rounded once
abbrev pub narrowed : Float → Float
narrowed x = convert binary32 x

-- toward minus infinity, and to the nearest whole number with ties to even
abbrev pub floor_of : Float → Float
floor_of x = floor binary32 x

abbrev pub rounded : Float → Float
rounded x = round_even binary32 x

-- Rust's `as i32`: toward zero, stopped at the ends of the range, and 0 for a not-a-number
abbrev pub to_i32 : Float → ℤ
to_i32 x = to_signed 31 x

-- the bits of a float, 2143289344 for a not-a-number
abbrev pub bits_of : Float → ℕ
bits_of x = to_bits binary32 x

-- the absolute value, which clears the sign of a zero too
unfoldable pub abs_of : Float → Float
abs_of nan = nan
abs_of (inf s) = inf false
abs_of (fin s m e) = fin false m e
