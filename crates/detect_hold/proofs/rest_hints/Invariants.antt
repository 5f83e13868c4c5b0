use mathlib.Core.Path.{◌≡◌}
use lib.ListN.{length}
use Rattle.detect_hold.specs.Front.{rows_hinted}
use Rattle.detect_hold.proofs.rest_hints.Given as goal

abbrev pub invariant-loop-r : goal.invariant-loop-r
invariant-loop-r l = l.n ≡ length (rows_hinted l.dog l.t l.s l.from l.r)
