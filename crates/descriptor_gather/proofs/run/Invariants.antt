use Prim.Native.Nat.{◌≤◌, max}
use mathlib.Core.Bool.{cond}
use mathlib.Core.List.{[]}
use Rattle.lists.specs.Ranges.{joined}
use Rattle.descriptor_patch.specs.Patch.{grid_at}
use Rattle.descriptor_gather.specs.Gather.{sample_in}
use Rattle.descriptor_gather.proofs.Adds.{Holds}
use Rattle.descriptor_gather.proofs.run.Given as goal

abbrev pub invariant-loop-c : goal.invariant-loop-c
invariant-loop-c l = record {
  reached : l.c ≤ max l.initial.c l.c-end;
  few : l.n ≤ l.c;
  so_far : Holds l.t.angle l.initial.hist (joined l.initial.c l.c (λ k. cond (grid_at l.t l.r k) (sample_in l.img l.t l.r k) [])) l.hist l.n;
}
