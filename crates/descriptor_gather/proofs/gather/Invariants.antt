use Prim.Native.Nat.{◌*◌, ◌≤◌, max}
use Rattle.lists.specs.Ranges.{joined}
use Rattle.params.specs.Limits.{max_side}
use Rattle.descriptor_run.specs.Run.{row_of}
use Rattle.descriptor_gather.specs.Gather.{sample_in}
use Rattle.descriptor_gather.proofs.Adds.{Holds}
use Rattle.descriptor_gather.proofs.gather.Given as goal

abbrev pub invariant-loop-r : goal.invariant-loop-r
invariant-loop-r l = record {
  reached : l.r ≤ max l.initial.r l.bottom;
  few : l.n ≤ max_side * l.r;
  so_far : Holds l.t.angle l.initial.hist (joined l.initial.r l.r (row_of l.t (sample_in l.img l.t))) l.hist l.n;
}
