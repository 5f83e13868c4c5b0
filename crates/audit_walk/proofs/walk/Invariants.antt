use Prim.Native.Nat.{◌+◌, ◌-◌, ◌≤◌}
use mathlib.Core.Path.{◌≡◌}
use Rattle.lists.specs.Ranges.{joined}
use Rattle.detect.specs.Entry.{list_of}
use Rattle.audit_compare.specs.Standing.{start, standing_of}
use Rattle.audit_keypoint.specs.Steps.{given_of}
use Rattle.audit_walk.specs.Walk.{passed}
use Rattle.audit_walk.proofs.walk.Given as goal

abbrev pub invariant-loop-layer : goal.invariant-loop-layer
invariant-loop-layer l =
    (1 ≤ l.layer) × (l.layer ≤ l.s.layers + 1)
    × (standing_of l.now ≡ passed l.gauss (given_of l.body l.k) start (joined 1 l.layer (λ j. list_of l.dog l.k.shape j l.k.octave l.s)))

abbrev pub decreases-loop-layer : goal.decreases-loop-layer
decreases-loop-layer l = l.layer-end - l.layer
