-- Inner: what the steps of a length hand each other: a raised pattern, and its digits. Definitions only.
use Rattle.std.specs.Prelude.{◌≡◌, ℕ, ◌+◌, ◌-◌, ◌*◌, ◌/◌, ◌%◌, ◌^◌, ◌<◌, ◌≤◌, ◌≢◌, from_bits, Float}
use Rattle.std.specs.Float.{binary32}

-- n is a pattern of an f64 with 2 ^ 28 and 2 ^ 52 added, raised so that the pattern of its nearest f32 is what stands before the last 29 digits, less 897 * 2 ^ 23: the
-- difference of the biases is 896, and one was added to the exponent. That f32 is v, where the f64 was 2 ^ -126 at least and not in the middle between two f32s.
abbrev pub raised_bits : ℕ → ℕ
raised_bits n = n / 2 ^ 29 - 7524581376

pub record Raised (v : Float) (n : ℕ) : Type 0 where
  pub normal : 4044232465647140864 ≤ n → (n % 2 ^ 29 ≢ 0) → (8388608 ≤ raised_bits n) × (raised_bits n < 2139095040)
  pub right : 4044232465647140864 ≤ n → (n % 2 ^ 29 ≢ 0) → from_bits binary32 (raised_bits n) ≡ v

-- the pattern of the f64 with its 23 digits, from 1 to below 2, doubled where the exponent is odd; and that times 2 ^ 46
abbrev pub digits_bits : ℕ → ℕ
digits_bits n = n % 2 ^ 53 / 2 ^ 29 * 2 ^ 29 + 4607182418800017408

abbrev pub radicand_of : ℕ → ℕ
radicand_of n = (2 ^ 23 + n / 2 ^ 29 % 2 ^ 23) * 2 ^ (23 + n / 2 ^ 52 % 2)
