use Prim.Native.Nat.{ℕ, ◌*◌, ◌≤◌}
use mathlib.Core.List.{List}
use native.Mathlib.Omega.{arith}
use Rattle.lists.proofs.Ranges.{joined_start}
use Rattle.params.specs.Limits.{max_side, keypoint_words}
use Rattle.detect_rows.specs.Forms.{row_leaves, rows_leave}
use Rattle.detect_words.proofs.Words.{filled_none, filled_part}
use Rattle.detect_rows.proofs.Forms.{row_bound, rows_few}
use Rattle.detect_hold.proofs.rest_words.Goals as goal
use Rattle.detect_hold.proofs.rest_words.Goals.{At-loop-r}

-- so many rows give a number that no step of the count can wrap
bounded : (c : At-loop-r) → c.loop-r.n ≤ max_side * (keypoint_words * max_side)
bounded c =
    let a = c.args in
    omega (arith, rows_few a.dog.now a.t a.s a.p.form a.from c.loop-r.r (omega arith) (omega arith), c.loop-r.invariant.0)

pub loop-r-init : goal.loop-r-init
unfolding rows_leave
loop-r-init c = filled_none _ _ _ (joined_start _ _)

pub overflow_add-p : goal.overflow_add-p
overflow_add-p c = omega (arith, bounded (goal.at.overflow_add-p c).At-loop-r)

pub row_words-n-requires-clause-from_bound : goal.row_words-n-requires-clause-from_bound
row_words-n-requires-clause-from_bound c = omega (arith, bounded (goal.at.row_words-n-requires-clause-from_bound c).At-loop-r)

pub overflow_add-n : goal.overflow_add-n
overflow_add-n c =
    let l = (goal.at.overflow_add-n c).At-loop-r in
    let a = l.args in
    omega (arith, bounded l, c.row_words-n.ensures.words_value, row_bound a.dog.now a.t a.s a.p.form l.loop-r.r)

pub loop-r-preserved : goal.loop-r-preserved
unfolding rows_leave
loop-r-preserved c =
    let a = c.args in
    let w = c.row_words-n.ensures in
    let f : ℕ → List ℕ = λ r. row_leaves a.p.form a.dog.now a.t a.s r in
    filled_part _ a.p.from a.from c.loop-r.r f _ _ _ _ (omega arith) c.loop-r.invariant (w.words_value, w.out_after)
