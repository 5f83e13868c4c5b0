use mathlib.Core.Path.{refl, ◌∙◌}
use native.Mathlib.Omega.{arith}
use Rattle.orient_window.proofs.Cells.{at_cell}
use Rattle.orient_gather.proofs.Length.{length_late, length_early}
use Rattle.orient_gather.proofs.cells_at.Goals as goal

pub nonzero_rem-rest : goal.nonzero_rem-rest
nonzero_rem-rest c = (at_cell c.args.win _ _ c.requires.0 c.requires.1).some

pub overflow_sub-rest : goal.overflow_sub-rest
overflow_sub-rest c = omega (arith, at_cell c.args.win _ _ c.requires.0 c.requires.1)

pub returns-then-early-k : goal.returns-then-early-k
returns-then-early-k c = length_late c.args.win _ _ _ (rw (← c.early_of-early.ensures) c.if-early-k.true) refl

pub returns-else-early-k : goal.returns-else-early-k
returns-else-early-k c =
    let e = c.early_of-early.ensures in
    length_early c.args.win _ _ _ (rw (← e) c.if-early-k.false) (c.min.ensures ∙ rw (← e) (omega arith))
