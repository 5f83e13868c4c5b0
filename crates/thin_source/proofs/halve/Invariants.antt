use Prim.Native.Nat.{◌^◌, ◌-◌, ◌<◌}
use Rattle.thin_source.proofs.Cutting.{Halving}
use Rattle.thin_source.proofs.halve.Given as goal

abbrev pub invariant-loop-lo : goal.invariant-loop-lo
invariant-loop-lo l = (l.hi < 2 ^ 64) × Halving l.words l.r l.q l.lo l.hi

abbrev pub decreases-loop-lo : goal.decreases-loop-lo
decreases-loop-lo l = l.hi - l.lo
