use Prim.Native.Nat.{◌+◌, ◌-◌, ◌≤◌, max}
use mathlib.Core.Path.{◌≡◌}
use Rattle.lists.specs.Ranges.{every}
use Rattle.samples.specs.Area.{strip_good}
use Rattle.samples.proofs.area_good.Given as goal

abbrev pub invariant-loop-r : goal.invariant-loop-r
invariant-loop-r l = (l.r ≤ max l.initial.r l.r-end) × (l.ok ≡ every (l.r - l.initial.r) (λ i. strip_good l.img l.s.width l.left l.right (l.initial.r + i)))
