use lib.Ieee.{le}
use Rattle.bounds.specs.Bounds.{min_of}
use Rattle.bounds.proofs.min.Goals as goal

pub returns-then-b-a : goal.returns-then-b-a
unfolding min_of le
returns-then-b-a c = simp c.if-b-a.true

pub returns-else-b-a : goal.returns-else-b-a
unfolding min_of
returns-else-b-a c = simp (c.if-b-a.false, c.number_or.ensures)
