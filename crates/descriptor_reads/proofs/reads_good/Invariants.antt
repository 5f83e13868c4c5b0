use Prim.Native.Nat.{◌≤◌, max}
use mathlib.Core.Path.{◌≡◌}
use Rattle.lists.specs.Ranges.{joined}
use Rattle.params.specs.Table.{all_good}
use Rattle.picture.specs.Picture.{four_at}
use Rattle.descriptor_run.specs.Run.{row_of}
use Rattle.descriptor_reads.proofs.reads_good.Given as goal

abbrev pub invariant-loop-r : goal.invariant-loop-r
invariant-loop-r l = record {
  reached : l.r ≤ max l.initial.r l.bottom;
  so_far : l.ok ≡ all_good (joined l.initial.r l.r (row_of l.t (four_at l.img l.t.size.width)));
}
