use Prim.Native.Nat.{ℕ, ◌<◌}
use mathlib.Core.Path.{◌≡◌}
use lib.ListN.{get_or}
use Rattle.thin_part.specs.Runs.{Beside}
use Rattle.thin.proofs.list_all.Given as goal

abbrev pub invariant-loop-k : goal.invariant-loop-k
invariant-loop-k l = record { beside : Beside l.initial.out l.out 0 l.k; each : (j : ℕ) → j < l.k → get_or l.out j 0 ≡ j }
