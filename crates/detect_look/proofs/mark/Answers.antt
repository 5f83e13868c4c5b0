use native.Mathlib.Omega.{arith}
use lib.ListN.{length-set}
use Rattle.detect_look.proofs.Looks.{marks_more}
use Rattle.detect_look.proofs.mark.Goals as goal

pub loop-c-preserved : goal.loop-c-preserved
loop-c-preserved c =
    let l = c.loop-c in
    (marks_more _ _ _ _ _ l.c _ _ _ (omega arith) l.invariant.0 c.may_be.ensures, simp length-set l.invariant.1)
