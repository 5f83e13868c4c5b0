use Rattle.std.proofs.Common.{◌≡◌, ℕ, Bool}
use Rattle.detect_look.specs.Hints.{some_cell, Tells}
use Rattle.detect_look.proofs.some_cell.Given as goal

abbrev pub invariant-loop-c : goal.invariant-loop-c
invariant-loop-c g l =
    (p : ℕ → Bool) → Tells (goal.F-post g l.test) l.fn.u.lo l.fn.u.hi p → l.any ≡ some_cell l.fn.u.lo l.c p
