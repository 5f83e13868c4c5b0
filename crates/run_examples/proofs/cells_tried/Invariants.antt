use Rattle.std.proofs.Common.{◌≤◌}
use Rattle.run_examples.proofs.cells_tried.Given as goal

abbrev pub invariant-loop-at : goal.invariant-loop-at
invariant-loop-at l = l.n ≤ l.at
