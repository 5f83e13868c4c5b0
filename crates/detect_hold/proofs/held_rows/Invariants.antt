use Prim.Native.Nat.{◌+◌}
use mathlib.Core.Path.{◌≡◌}
use mathlib.Core.Bool.{true}
use Rattle.params.specs.Limits.{border}
use Rattle.detect_samples.specs.Rows.{rows_good}
use Rattle.detect_hold.specs.Front.{Holds}
use Rattle.detect_hold.proofs.held_rows.Given as goal

abbrev pub invariant-loop-r : goal.invariant-loop-r
invariant-loop-r l = Holds l.dog l.t l.s l.r l.n l.hold × (rows_good l.t (border + 1) (l.r + 1) l.dog ≡ true)
