use Prim.Native.Nat.{◌+◌, ◌*◌, ◌≤◌, ◌-◌}
use mathlib.Core.Path.{◌≡◌, sym, ◌∙◌}
use native.Mathlib.Omega.{arith}
use Rattle.std.specs.Prelude.{min}
use Rattle.lists.proofs.Ranges.{joined_start}
use Rattle.params.specs.Limits.{keypoint_words}
use Rattle.detect_look.specs.Place.{group}
use Rattle.detect_look.proofs.Looks.{quiet_cells}
use Rattle.detect_rows.specs.Forms.{run_leaves}
use Rattle.detect_words.proofs.Words.{Filled, filled_none}
use Rattle.detect_rows.proofs.Forms.{run_bound, run_more, run_quiet}
use Rattle.detect_rows.proofs.block_words.Goals as goal
use Rattle.detect_rows.proofs.block_words.Goals.{At-loop-lo, After-group_words-n}

-- so few words that no sum of places wraps
bounded : (c : At-loop-lo) → let u = c.args.u in c.loop-lo.n ≤ keypoint_words * (min c.loop-lo.lo u.hi - u.lo)
bounded c =
    let a = c.args in
    omega (arith, run_bound a.dog.now a.t a.s a.p.form a.u.row a.u.lo (min c.loop-lo.lo a.u.hi), c.loop-lo.invariant.0)

-- a group more
more : (c : After-group_words-n) → let a = c.args in Filled a.out.now a.p.from (run_leaves a.p.form a.dog.now a.t a.s a.u.row a.u.lo (min (c.loop-lo.lo + group) a.u.hi)) c.group_words-n.new.out (c.loop-lo.n + c.group_words-n.result)
more c =
    let a = c.args in
    let l = c.loop-lo in
    let e : min l.lo a.u.hi ≡ l.lo = omega arith in
    let g : c.run_end-hi.result ≡ min (l.lo + group) a.u.hi = omega arith in
    rw (← g) (run_more a.dog.now a.t a.s _ a.p.from a.p.form a.u.row a.u.lo l.lo _ _ _ _ _ (omega arith) (omega arith) (rw e at l.invariant) (c.group_words-n.ensures.value, c.group_words-n.ensures.out_after))

pub returns-then-not-any_loud : goal.returns-then-not-any_loud
returns-then-not-any_loud c =
    let a = c.args in
    let q = quiet_cells a.dog.now a.t a.s a.u.row a.u.lo a.u.hi (sym c.any_loud.ensures ∙ c.if-not-any_loud.true) in
    let w = filled_none _ _ a.p.from (run_quiet a.dog.now a.t a.s a.p.form a.u.row a.u.lo a.u.hi q) in
    record { value = w.0; out_after = w.1 }

pub loop-lo-init : goal.loop-lo-init
loop-lo-init c =
    let u = c.args.u in
    let e : min u.lo u.hi ≡ u.lo = omega arith in
    rw e (filled_none _ _ _ (joined_start _ _))

pub overflow_add-p : goal.overflow_add-p
overflow_add-p c = omega (arith, bounded (goal.at.overflow_add-p c).At-loop-lo)

pub group_words-n-requires-clause-from_bound : goal.group_words-n-requires-clause-from_bound
group_words-n-requires-clause-from_bound c = omega (arith, bounded (goal.at.group_words-n-requires-clause-from_bound c).At-loop-lo)

pub overflow_add-n : goal.overflow_add-n
overflow_add-n c =
    let b = (goal.at.overflow_add-n c).After-group_words-n in
    let a = b.args in
    omega (arith, (more b).0, run_bound a.dog.now a.t a.s a.p.form a.u.row a.u.lo (min (b.loop-lo.lo + group) a.u.hi))

pub loop-lo-preserved : goal.loop-lo-preserved
loop-lo-preserved c = more (goal.at.loop-lo-preserved c).After-group_words-n

pub returns-else-not-any_loud-2 : goal.returns-else-not-any_loud-2
returns-else-not-any_loud-2 c =
    let u = c.args.u in
    let e : min (c.loop-lo.lo + group) u.hi ≡ u.hi = omega arith in
    let w = rw e at (more (goal.at.returns-else-not-any_loud-2 c).After-group_words-n) in
    record { value = w.0; out_after = w.1 }
