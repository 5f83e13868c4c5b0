-- The loop's invariant: the standing is that after the first j directions. Assumes nothing.
use mathlib.Core.Path.{◌≡◌}
use Prim.Native.Nat.{◌-◌, ◌≤◌}
use Rattle.audit_compare.specs.Standing.{standing_of}
use Rattle.audit_keypoint.specs.Steps.{given_of}
use Rattle.audit_keypoint.proofs.Directions.{steps_to}
use Rattle.audit_keypoint.proofs.add_directions.Given as goal

abbrev pub invariant-loop-j : goal.invariant-loop-j
invariant-loop-j l = (l.j ≤ l.n) × (standing_of l.now ≡ steps_to (given_of l.body l.k) l.img l.keypoint l.oriented (standing_of l.initial.now) l.j)

abbrev pub decreases-loop-j : goal.decreases-loop-j
decreases-loop-j l = l.n - l.j
