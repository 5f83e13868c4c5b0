use Rattle.thin_source.proofs.Sources.{Reaching}
use Rattle.thin_source.proofs.reach_of.Given as goal

abbrev pub invariant-loop-i : goal.invariant-loop-i
invariant-loop-i l = Reaching l.words l.i l.low l.high
