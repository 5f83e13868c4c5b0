use Prim.Native.Nat.{ℕ, ◌+◌, ◌*◌, ◌≤◌, ◌<◌, ◌-◌}
use mathlib.Core.Path.{◌≡◌}
use mathlib.Core.Bool.{Bool, ◌&&◌}
use mathlib.Core.List.{List}
use native.Mathlib.Omega.{arith}
use lib.Ieee.{Float}
use Rattle.std.specs.Prelude.{min}
use Rattle.lists.proofs.Ranges.{joined_start}
use Rattle.params.specs.Limits.{border, keypoint_words}
use Rattle.picture.specs.declared.Shape.{Shape}
use Rattle.detect_keypoint.specs.declared.Search.{Search}
use Rattle.detect_samples.specs.Rows.{span_good}
use Rattle.detect_samples.proofs.Spans.{span_join}
use Rattle.detect_words.specs.declared.Place.{Place}
use Rattle.detect_rows.specs.Forms.{run_leaves, row_leaves}
use Rattle.detect_words.proofs.Words.{Filled, filled_none}
use Rattle.detect_rows.proofs.Forms.{run_bound, run_more}
use Rattle.detect_rows.proofs.row_words.Invariants.{Up}
use Rattle.detect_rows.proofs.row_words.Goals as goal
use Rattle.detect_rows.proofs.row_words.Goals.{At-loop-lo, After-span_good-ok-2, else-loop-lo-test, then-loop-lo-test+else-end-lo-gt64}

-- so few words that no sum of places wraps
bounded : (c : At-loop-lo) → c.loop-lo.n ≤ keypoint_words * (min c.loop-lo.lo (c.args.t.width - border) - border)
bounded c =
    let a = c.args in
    omega (arith, run_bound a.dog.now a.t a.s a.p.form a.r border (min c.loop-lo.lo (a.t.width - border)), c.loop-lo.invariant.0.0)

-- a block more, up to column hi
more : (d : List Float) (t : Shape) (s : Search) (r : ℕ) (p : Place) (old out out' : List ℕ) (n x : ℕ) (ok b : Bool) (lo end hi : ℕ) → border ≤ lo → lo < end → hi ≡ min (lo + 64) end → Up d t s r p old (min lo end) out n ok
    → Filled out (p.from + n) (run_leaves p.form d t s r lo hi) out' x → b ≡ span_good t (r + 1) lo hi d → Up d t s r p old (min (lo + 64) end) out' (n + x) (ok && b)
more d t s r p old out out' n x ok b lo end hi above before e u f g =
    let h : min lo end ≡ lo = omega arith in
    let v = rw h at u in
    rw (← e) (run_more d t s old p.from p.form r border lo hi out out' n x above (omega arith) v.0 f, rw (v.1, g) (span_join t (r + 1) 0 lo hi d (omega arith) (omega arith)))

-- the whole row
whole : (c : After-span_good-ok-2) → let a = c.args in Up a.dog.now a.t a.s a.r a.p a.out.now (a.t.width - border) c.loop-lo-test.out c.loop-lo-test.n c.loop-lo-test.ok
whole c =
    let a = c.args in
    let l = c.loop-lo in
    let end = a.t.width - border in
    elim c.loop-lo-test.branch [
      | else-loop-lo-test w ↦ let e : min l.lo end ≡ end = omega arith in rw (w.out-is, w.n-is, w.ok-is) (rw e at l.invariant)
      | then-loop-lo-test+else-end-lo-gt64 w ↦
          let e : min (l.lo + 64) end ≡ end = omega arith in
          rw (w.out-is, w.n-is, w.ok-is) (rw e at (more a.dog.now a.t a.s a.r a.p a.out.now _ _ _ _ _ _ l.lo end w.run_end-hi.result (omega arith) (omega arith) (omega arith) l.invariant (w.block_words-n.ensures.value, w.block_words-n.ensures.out_after) w.span_good-ok-in-loop-lo.ensures))
    ]

pub loop-lo-init : goal.loop-lo-init
loop-lo-init c =
    let e : min border (c.args.t.width - border) ≡ border = omega arith in
    rw e (filled_none _ _ _ (joined_start border _), c.span_good-ok.ensures)

pub overflow_add-p : goal.overflow_add-p
overflow_add-p c = omega (arith, bounded (goal.at.overflow_add-p c).At-loop-lo)

pub block_words-n-requires-clause-from_bound : goal.block_words-n-requires-clause-from_bound
block_words-n-requires-clause-from_bound c = omega (arith, bounded (goal.at.block_words-n-requires-clause-from_bound c).At-loop-lo)

pub overflow_add-n : goal.overflow_add-n
overflow_add-n c =
    let b = (goal.at.overflow_add-n c).At-loop-lo in
    let a = b.args in
    omega (arith, bounded b, run_bound a.dog.now a.t a.s a.p.form a.r b.loop-lo.lo c.run_end-hi.result, c.block_words-n.ensures.value)

pub loop-lo-preserved : goal.loop-lo-preserved
loop-lo-preserved c =
    let a = c.args in
    let l = c.loop-lo in
    more a.dog.now a.t a.s a.r a.p a.out.now _ _ _ _ _ _ l.lo (a.t.width - border) c.run_end-hi.result (omega arith) (omega arith) (omega arith) l.invariant (c.block_words-n.ensures.value, c.block_words-n.ensures.out_after) c.span_good-ok-in-loop-lo.ensures

pub returns-clause-words_value : goal.returns-clause-words_value
unfolding row_leaves
returns-clause-words_value c = (whole (goal.at.returns-clause-words_value c).After-span_good-ok-2).0.0

pub returns-clause-good_value : goal.returns-clause-good_value
returns-clause-good_value c =
    let a = c.args in
    rw ((whole (goal.at.returns-clause-good_value c).After-span_good-ok-2).1, c.span_good-ok-2.ensures) (span_join a.t (a.r + 1) 0 (a.t.width - border) a.t.width a.dog.now (omega arith) (omega arith))

pub returns-clause-out_after : goal.returns-clause-out_after
unfolding row_leaves
returns-clause-out_after c = (whole (goal.at.returns-clause-out_after c).After-span_good-ok-2).0.1
