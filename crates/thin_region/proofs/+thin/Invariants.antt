use Rattle.std.proofs.Common.{◌-◌}
use Rattle.thin_region.proofs.Turns.{Rounds}
use Rattle.thin_region.proofs.+thin.Given as goal

abbrev pub invariant-loop-k : goal.invariant-loop-k
invariant-loop-k l = Rounds l.words (l.depth - 1) l.r l.q l.near l.b l.initial.s l.initial.out l.at l.k l.s l.out l.end

abbrev pub decreases-thin : goal.decreases-thin
decreases-thin l = l.depth
