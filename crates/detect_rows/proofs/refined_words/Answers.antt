use Prim.Native.Nat.{◌<◌}
use native.Mathlib.Nat.{zero-add}
use native.Mathlib.Omega.{arith}
use lib.ListN.{length, take, get_or}
use Rattle.detect_rows.specs.Forms.{again, all_again}
use Rattle.detect_words.proofs.Words.{filled_none, filled_more}
use Rattle.detect_rows.proofs.Forms.{again_none, again_more, again_bound}
use Rattle.detect_rows.proofs.refined_words.Goals as goal

pub loop-word-init : goal.loop-word-init
loop-word-init c = (omega arith, filled_none _ _ _ (again_none _ _ _))

pub overflow_add-n : goal.overflow_add-n
overflow_add-n c =
    let a = c.args in
    omega (arith, c.refined-n.ensures.value, again_bound a.dog.now a.t a.s (get_or a.hold.now c.loop-word.word-index 0))

pub loop-word-preserved : goal.loop-word-preserved
loop-word-preserved c =
    let a = c.args in
    let l = c.loop-word in
    let g = c.refined-n.ensures in
    let w = get_or a.hold.now l.word-index 0 in
    let h : l.word-index < length a.hold.now = omega arith in
    (omega (arith, g.value, again_bound a.dog.now a.t a.s w), filled_more _ 0 (all_again a.dog.now a.t a.s (take l.word-index a.hold.now)) (again a.dog.now a.t a.s w) _ _ _ _ _ (again_more a.dog.now a.t a.s a.hold.now l.word-index h) l.invariant.1 (rw zero-add (g.value, g.out_after)))
