use Prim.Native.Nat.{◌-◌}
use mathlib.Core.Path.{◌≡◌}
use lib.ListN.{length}
use Rattle.std.specs.Prelude.{min}
use Rattle.params.specs.Limits.{border}
use Rattle.detect_extrema.specs.Neighbours.{tied}
use Rattle.detect_extrema.specs.Scan.{cells_of}
use Rattle.audit_compare.specs.Standing.{standing_of}
use Rattle.audit_keypoint.specs.Steps.{given_of}
use Rattle.audit_walk.specs.Walk.{passed}
use Rattle.audit_walk.proofs.add_row.Given as goal

abbrev pub invariant-loop-lo : goal.invariant-loop-lo
invariant-loop-lo l =
    (length l.found ≡ 640)
    × (standing_of l.now ≡ passed l.gauss (given_of l.body l.k) (standing_of l.initial.now) (cells_of tied l.dog l.k.shape l.s l.r border (min l.lo (l.k.shape.width - border))))

abbrev pub decreases-loop-lo : goal.decreases-loop-lo
decreases-loop-lo l = l.k.shape.width - l.lo
