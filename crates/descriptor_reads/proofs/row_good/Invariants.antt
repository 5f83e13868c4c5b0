use Prim.Native.Nat.{◌≤◌, max}
use mathlib.Core.Path.{◌≡◌}
use mathlib.Core.Bool.{cond}
use mathlib.Core.List.{[]}
use Rattle.lists.specs.Ranges.{joined}
use Rattle.params.specs.Table.{all_good}
use Rattle.picture.specs.Picture.{four_at}
use Rattle.descriptor_patch.specs.Patch.{grid_at}
use Rattle.descriptor_reads.proofs.row_good.Given as goal

abbrev pub invariant-loop-c : goal.invariant-loop-c
invariant-loop-c l = record {
  reached : l.c ≤ max l.initial.c l.c-end;
  so_far : l.ok ≡ all_good (joined l.initial.c l.c (λ k. cond (grid_at l.t l.r k) (four_at l.img l.t.size.width l.r k) []));
}
