use Prim.Native.Nat.{◌-◌, ◌≤◌}
use mathlib.Core.Path.{◌≡◌}
use Rattle.params.specs.Limits.{border}
use Rattle.detect_rows.proofs.Forms.{rows_of}
use Rattle.audit_compare.specs.Standing.{standing_of}
use Rattle.audit_keypoint.specs.Steps.{given_of}
use Rattle.audit_walk.specs.Walk.{passed}
use Rattle.audit_walk.proofs.add_layer.Given as goal

abbrev pub invariant-loop-r : goal.invariant-loop-r
invariant-loop-r l =
    (border ≤ l.r) × (l.r ≤ l.r-end) × (standing_of l.now ≡ passed l.gauss (given_of l.body l.k) (standing_of l.initial.now) (rows_of l.dog l.k.shape l.s border l.r))

abbrev pub decreases-loop-r : goal.decreases-loop-r
decreases-loop-r l = l.r-end - l.r
