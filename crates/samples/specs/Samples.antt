-- Inner: runs of samples in range, rule A13. Definitions only.
use Rattle.std.specs.Prelude.{ℕ, Bool, List, take, drop, Float}
use Rattle.params.specs.Table.{all_good}

-- the samples from place `from` to below place `to` are good
unfoldable pub good_from : ℕ → ℕ → List Float → Bool
good_from from to d = all_good (drop from (take to d))
