-- The sum so far is that of the values passed. Assumes nothing.
use mathlib.Core.Path.{◌≡◌}
use Rattle.descriptor_values.specs.Values.{plain_norm}
use Rattle.descriptor_values.proofs.plain_sum.Given as goal

abbrev pub invariant-loop-x : goal.invariant-loop-x
invariant-loop-x l = l.s ≡ plain_norm l.v l.x-index
