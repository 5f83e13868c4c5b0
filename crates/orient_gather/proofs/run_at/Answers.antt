use native.Mathlib.Omega.{arith}
use Rattle.orient_gather.specs.Runs.{run_of}
use Rattle.orient_window.proofs.Cells.{at_cell}
use Rattle.orient_gather.proofs.run_at.Goals as goal

pub nonzero_div-result : goal.nonzero_div-result
nonzero_div-result c = (at_cell c.args.win _ _ c.requires.1.1.0 c.requires.1.1.1).some

pub overflow_add-result : goal.overflow_add-result
overflow_add-result c = omega (arith, c.requires, at_cell c.args.win _ _ c.requires.1.1.0 c.requires.1.1.1)

pub nonzero_rem-result : goal.nonzero_rem-result
nonzero_rem-result c = (at_cell c.args.win _ _ c.requires.1.1.0 c.requires.1.1.1).some

pub overflow_add-result-2 : goal.overflow_add-result-2
overflow_add-result-2 c = omega (arith, c.requires, at_cell c.args.win _ _ c.requires.1.1.0 c.requires.1.1.1)

pub returns : goal.returns
unfolding run_of
returns c = rw c.early_of.ensures
