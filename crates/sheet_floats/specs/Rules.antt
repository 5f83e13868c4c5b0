-- Law: the sheet holds floats to ranges of bits. These are the same as rule S5 on the floats themselves, both ways: finite with the sign bit clear, a size above 0, an angle below 360. proofs/Rules.antt proves each. Definitions only.
use Rattle.std.specs.Prelude.{ℕ, ◌^◌, ◌<◌, ◌≤◌, ◌≡◌, true, Float}
use Rattle.std.specs.Float.Ieee.Scale.{finite}
use Rattle.ieee.specs.F32.{◌<ᶠ◌, f32, abs_of}
use Rattle.ieee.specs.Numbers.{nought, whole_turn}
use Rattle.sheet.specs.Layout.{largest_finite, least_positive, largest_angle}

-- finite with sign bit clear
pub record Plain (x : Float) : Type 0 where
  pub ends : finite x ≡ true
  pub clear : abs_of x ≡ x

-- of the float of any 32 bits
pub record FloatRule : Type 0 where
  -- what is in the range of x, y and response is finite with sign bit clear, and nothing else is
  pub plain_in : (b : ℕ) → b ≤ largest_finite → Plain (f32 b)
  pub plain_out : (b : ℕ) → b < 2 ^ 32 → Plain (f32 b) → b ≤ largest_finite
  -- in that of the size, it is above 0 too
  pub above_in : (b : ℕ) → least_positive ≤ b → b ≤ largest_finite → (nought <ᶠ f32 b) ≡ true
  pub above_out : (b : ℕ) → b < 2 ^ 32 → Plain (f32 b) → (nought <ᶠ f32 b) ≡ true → least_positive ≤ b
  -- in that of the angle, below 360
  pub angle_in : (b : ℕ) → b ≤ largest_angle → (f32 b <ᶠ whole_turn) ≡ true
  pub angle_out : (b : ℕ) → b < 2 ^ 32 → Plain (f32 b) → (f32 b <ᶠ whole_turn) ≡ true → b ≤ largest_angle
