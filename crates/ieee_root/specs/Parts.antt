-- Inner: what the steps of a root hand each other. Definitions only.
use Rattle.std.specs.Prelude.{◌≡◌, ℕ, ◌≤◌, Float}
use Rattle.std.specs.Float.{binary32}
use Rattle.std.specs.Float.Ieee.{of_bits}
use Rattle.ieee.specs.Root.{sqrt}

-- r is the pattern of the root of v
pub record RootBits (v : Float) (r : ℕ) : Type 0 where
  pub small : r ≤ 2139095040
  pub right : of_bits binary32 r ≡ sqrt binary32 v
