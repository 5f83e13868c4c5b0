use lib.Ieee.{le}
use Rattle.bounds.specs.Bounds.{max_of}
use Rattle.bounds.proofs.max.Goals as goal

pub returns-then-a-b : goal.returns-then-a-b
unfolding max_of le
returns-then-a-b c = simp c.if-a-b.true

pub returns-else-a-b : goal.returns-else-a-b
unfolding max_of
returns-else-a-b c = simp (c.if-a-b.false, c.number_or.ensures)
