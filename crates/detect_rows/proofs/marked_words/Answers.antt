use Prim.Native.Nat.{ℕ, ◌*◌, ◌≤◌, ◌-◌}
use mathlib.Core.Path.{◌≡◌, ap, ◌∙◌}
use mathlib.Core.List.{List}
use native.Mathlib.Omega.{arith}
use lib.ListN.{length}
use lib.Seq.{length-sets}
use Rattle.lists.proofs.Ranges.{joined_start}
use Rattle.params.specs.Limits.{keypoint_words}
use Rattle.detect_extrema.specs.Neighbours.{tied}
use Rattle.detect_extrema.specs.Scan.{found}
use Rattle.detect_look.proofs.Looks.{marks_read}
use Rattle.detect_words.specs.Leaves.{leaves}
use Rattle.detect_words.proofs.Words.{filled_none, filled_part}
use Rattle.detect_rows.proofs.Forms.{cell_bound, run_bound}
use Rattle.detect_rows.proofs.marked_words.Goals as goal
use Rattle.detect_rows.proofs.marked_words.Goals.{At-loop-c}

-- so few words that no sum of places wraps
bounded : (c : At-loop-c) → let u = c.args.u in c.loop-c.n ≤ keypoint_words * (c.loop-c.c - u.lo)
bounded c =
    let a = c.args in
    omega (arith, run_bound a.dog.now a.t a.s a.p.form a.u.row a.u.lo c.loop-c.c, c.loop-c.invariant.0)

pub loop-c-init : goal.loop-c-init
loop-c-init c = filled_none _ _ _ (joined_start _ _)

pub seen-x-requires-clause-mark_value : goal.seen-x-requires-clause-mark_value
seen-x-requires-clause-mark_value c =
    let a = c.args in
    marks_read a.dog.now a.t a.s a.u _ (omega arith) c.mark-marks.ensures c.loop-c.c (omega arith) (omega arith)

pub overflow_add-p : goal.overflow_add-p
overflow_add-p c = omega (arith, bounded (goal.at.overflow_add-p c).At-loop-c)

pub leave-n-requires : goal.leave-n-requires
leave-n-requires c = (omega arith, omega arith, omega (arith, bounded (goal.at.leave-n-requires c).At-loop-c))

pub overflow_add-n : goal.overflow_add-n
overflow_add-n c =
    let b = (goal.at.overflow_add-n c).At-loop-c in
    let a = b.args in
    let g = rw c.seen-x.ensures at c.leave-n.ensures.value in
    omega (arith, bounded b, g, cell_bound a.dog.now a.t a.s a.p.form a.u.row b.loop-c.c)

pub loop-c-preserved : goal.loop-c-preserved
loop-c-preserved c =
    let l = c.loop-c in
    let a = c.args in
    let e = c.seen-x.ensures in
    let f : ℕ → List ℕ = λ i. leaves a.p.form a.u.row i (found tied a.dog.now a.t a.s a.u.row i) in
    filled_part _ a.p.from a.u.lo l.c f _ _ _ _ (omega arith) l.invariant (rw e at c.leave-n.ensures.value, rw e at c.leave-n.ensures.out_after)

pub shape_of-out : goal.shape_of-out
shape_of-out c = ap length c.loop-c.invariant.1 ∙ simp length-sets

pub returns : goal.returns
returns c =
    let e : c.loop-c.c ≡ c.args.u.hi = omega arith in
    let w = rw e at c.loop-c.invariant in
    record { value = w.0; out_after = w.1 }
