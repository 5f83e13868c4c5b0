use Rattle.detect_rows.specs.Forms.{rows_leave}
use Rattle.detect_words.proofs.Words.{Filled}
use Rattle.detect_hold.proofs.rest_words.Given as goal

abbrev pub invariant-loop-r : goal.invariant-loop-r
invariant-loop-r l = Filled l.initial.out l.p.from (rows_leave l.p.form l.dog l.t l.s l.from l.r) l.out l.n
