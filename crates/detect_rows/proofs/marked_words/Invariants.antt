use Rattle.detect_rows.specs.Forms.{run_leaves}
use Rattle.detect_words.proofs.Words.{Filled}
use Rattle.detect_rows.proofs.marked_words.Given as goal

abbrev pub invariant-loop-c : goal.invariant-loop-c
invariant-loop-c l = Filled l.initial.out l.p.from (run_leaves l.p.form l.dog l.t l.s l.u.row l.u.lo l.c) l.out l.n
