-- Law: what is proved of the 128 values of a histogram: proofs/ValuesRules.antt proves each. Definitions only.
use Rattle.std.specs.Prelude.{ℕ, ◌<◌, ◌≤◌, ◌≡◌, true, List, pos, length, get_or, replicate, Float}
use Rattle.std.specs.Float.{nan, binary32}
use Rattle.std.specs.Float.Ieee.{of_int}
use Rattle.ieee.specs.F32.{◌≤ᶠ◌, f32, abs_of}
use Rattle.ieee.specs.Numbers.{nought}
use Rattle.params.specs.Limits.{value_count}
use Rattle.descriptor_values.specs.Places.{places}
use Rattle.descriptor_values.specs.Values.{values_of}

-- 2 ^ 46
abbrev pub most : Float
most = f32 0x5680_0000

-- what a place of the histogram holds: 0 to 2 ^ 46, and no minus zero
pub record Held (x : Float) : Type 0 where
  pub plain : abs_of x ≡ x
  pub small : (x ≤ᶠ most) ≡ true

-- a whole number from 0 to 255
pub record Byte (x : Float) : Type 0 where
  pub number : ℕ
  pub small : number ≤ 255
  pub is : x ≡ of_int binary32 (pos number)

pub record ValueRule : Type 0 where
  -- 128 of them
  pub count : (hist : List Float) → length (values_of hist) ≡ value_count
  -- each a whole number from 0 to 255
  pub whole : (hist : List Float) → ((i : ℕ) → i < places → Held (get_or hist i nan)) → (n : ℕ) → n < value_count → Byte (get_or (values_of hist) n nan)
  -- an empty histogram gives zeros
  pub zeros : values_of (replicate places nought) ≡ replicate value_count nought
