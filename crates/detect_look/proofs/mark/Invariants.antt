use Rattle.std.proofs.Common.{◌≡◌, false, length, replicate}
use lib.Seq.{sets}
use Rattle.detect_look.specs.Hints.{looks}
use Rattle.detect_look.specs.Place.{group}
use Rattle.detect_look.proofs.mark.Given as goal

abbrev pub invariant-loop-c : goal.invariant-loop-c
invariant-loop-c l = (l.marks ≡ sets (replicate group false) 0 (looks l.dog l.t l.s l.u.row l.u.lo l.c)) × (length l.marks ≡ group)
