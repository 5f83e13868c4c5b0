use lib.Ieee.{of_bits, neg}
use Rattle.descriptor_run.specs.Cells.{clip_j}
use Rattle.descriptor_run.proofs.clip_j.Goals as goal

pub returns-then-coef : goal.returns-then-coef
unfolding clip_j of_bits neg
returns-then-coef c = rw (c.if-coef.true, c.max.ensures, c.min.ensures)

pub returns-then-coef-2 : goal.returns-then-coef-2
unfolding clip_j of_bits neg
returns-then-coef-2 c = rw (c.if-coef.false, c.if-coef-2.true, c.max-then-coef-2.ensures, c.min-then-coef-2.ensures)

pub returns-then-off : goal.returns-then-off
unfolding clip_j of_bits neg
returns-then-off c = rw (c.if-coef.false, c.if-coef-2.false, c.if-off.true)

pub returns-else-off : goal.returns-else-off
unfolding clip_j of_bits neg
returns-else-off c = rw (c.if-coef.false, c.if-coef-2.false, c.if-off.false)
