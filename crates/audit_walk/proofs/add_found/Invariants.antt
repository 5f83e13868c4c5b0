use Prim.Native.Nat.{◌-◌, ◌≤◌}
use mathlib.Core.Path.{◌≡◌}
use mathlib.Core.List.{foldl}
use Rattle.params.specs.Limits.{keypoint_words}
use Rattle.sheet.specs.Sheet.{parts}
use Rattle.audit_compare.specs.Standing.{standing_of}
use Rattle.audit_keypoint.specs.Steps.{given_of, keypoint_step}
use Rattle.audit_walk.proofs.add_found.Given as goal

abbrev pub invariant-loop-i : goal.invariant-loop-i
invariant-loop-i l =
    (l.i ≤ l.n) × (standing_of l.now ≡ foldl (keypoint_step l.gauss (given_of l.body l.k)) (standing_of l.initial.now) (parts keypoint_words l.i l.found))

abbrev pub decreases-loop-i : goal.decreases-loop-i
decreases-loop-i l = l.n - l.i
