use mathlib.Core.Path.{◌≡◌}
use lib.ListN.{length}
use Rattle.detect_look.specs.Hints.{hinted}
use Rattle.detect_look.proofs.hint_count.Given as goal

abbrev pub invariant-loop-c : goal.invariant-loop-c
invariant-loop-c l = l.n ≡ length (hinted l.dog l.t l.s l.u.row l.u.lo l.c)
