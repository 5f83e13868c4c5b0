-- Inner: positions that are added to a lent list, as far as there is room, and told by how many of them pass each test. Definitions only.
use Rattle.std.specs.Prelude.{ℕ, ◌+◌, ◌≤◌, ◌≡◌, Bool, true, List, length}
use Rattle.thin_part.specs.Runs.{held, Beside}

-- they stand from `at` to below `end`, where all of them have room; `many` tells how many of them pass a test
pub record Added (many : (ℕ → Bool) → ℕ) (s t : List ℕ) (at end : ℕ) : Type 0 where
  pub count : end ≡ at + many (λ i. true)
  pub beside : Beside s t at end
  pub each : end ≤ length s → (g : ℕ → Bool) → held t at end g ≡ many g
