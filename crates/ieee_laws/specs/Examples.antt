-- Law: the pages of `ieee` at a few numbers, beside what any IEEE 754 machine answers. Definitions only.
use Rattle.std.specs.Prelude.{◌≡◌, ℕ, ◌-◌, ◌^◌, Bool, true, false, pos, negsuc, Float}
use Rattle.std.specs.Float.{nan, inf, fin, Format, binary32, binary64}
use Rattle.ieee.specs.Rounding.{RoundTiesToEven}
use Rattle.ieee.specs.Operations.{IsFma}

-- ±n / d is rounded to r, and to nothing else
pub record Rounds (f : Format) (s : Bool) (n d : ℕ) (r : Float) : Type 0 where
  pub is : RoundTiesToEven f s n d r
  pub only : (t : Float) → RoundTiesToEven f s n d t → t ≡ r

pub record Roundings : Type 0 where
  -- 0.1f is 13421773 * 2 ^ -27, and 0.1 is 3602879701896397 * 2 ^ -55
  pub tenth : Rounds binary32 false 1 10 (fin false 13421773 (negsuc 26))
  pub tenth_64 : Rounds binary64 false 1 10 (fin false 3602879701896397 (negsuc 54))
  -- ties: 2 ^ 24 + 1 goes down to 2 ^ 24, and 2 ^ 24 + 3 up to 2 ^ 24 + 4
  pub tie_down : Rounds binary32 false 16777217 1 (fin false 1 (pos 24))
  pub tie_up : Rounds binary32 true 16777219 1 (fin true 4194305 (pos 2))
  -- half of the least number: zero, with the sign; half as much again: the least
  pub least_half : Rounds binary32 true 1 (2 ^ 150) (fin true 0 (pos 0))
  pub least_more : Rounds binary32 true 3 (2 ^ 151) (fin true 1 (negsuc 148))
  -- the threshold 2 ^ 128 - 2 ^ 103 is an infinity, and one less is the largest number, 16777215 * 2 ^ 104
  pub threshold_at : Rounds binary32 true (2 ^ 128 - 2 ^ 103) 1 (inf true)
  pub threshold_under : Rounds binary32 false (2 ^ 128 - 2 ^ 103 - 1) 1 (fin false 16777215 (pos 104))

-- x * y + z is r, and nothing else
pub record Fuses (x y z r : Float) : Type 0 where
  pub is : IsFma binary32 x y z r
  pub only : (t : Float) → IsFma binary32 x y z t → t ≡ r

pub record Fusings : Type 0 where
  -- 1 * 1 - 1 is +0, and -0 * 1 + -0 is -0
  pub cancelled : Fuses (fin false 1 (pos 0)) (fin false 1 (pos 0)) (fin true 1 (pos 0)) (fin false 0 (pos 0))
  pub minus_zeros : Fuses (fin true 0 (pos 0)) (fin false 1 (pos 0)) (fin true 0 (pos 0)) (fin true 0 (pos 0))
  -- rounded once: (2 ^ 12 + 1) * (2 ^ 12 + 1) - 2 ^ 24 is 2 ^ 13 + 1, where a rounded product would leave 2 ^ 13
  pub once : Fuses (fin false 4097 (pos 0)) (fin false 4097 (pos 0)) (fin true 1 (pos 24)) (fin false 8193 (pos 0))
  -- the product overflows, and the sum does not: 2 ^ 127 * 2 - 2 ^ 127 is 2 ^ 127
  pub no_overflow : Fuses (fin false 1 (pos 127)) (fin false 1 (pos 1)) (fin true 1 (pos 127)) (fin false 1 (pos 127))
  -- 0 * infinity is not a number; infinity * -2 is added to +infinity, and to -infinity
  pub zero_infinity : Fuses (fin true 0 (pos 0)) (inf false) (inf false) nan
  pub unlike_infinities : Fuses (inf false) (fin true 1 (pos 1)) (inf false) nan
  pub like_infinities : Fuses (inf false) (fin true 1 (pos 1)) (inf true) (inf true)
