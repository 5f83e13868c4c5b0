use Prim.Native.Nat.{◌+◌}
use mathlib.Core.Path.{sym, ◌∙◌}
use native.Mathlib.Omega.{arith}
use borrow.Author.Tests.{not-true, not-false}
use Rattle.params.specs.Limits.{border}
use Rattle.detect_samples.proofs.Rows.{rows_none, rows_more, row_bad}
use Rattle.detect_samples.specs.Rows.{rows_good}
use Rattle.detect_hold.proofs.Parts.{held_none, held_kept, held_more}
use Rattle.detect_hold.proofs.held_rows.Goals as goal

pub loop-r-init : goal.loop-r-init
unfolding rows_good
loop-r-init c =
    let a = c.args in
    (held_none _ _ _ _ (omega arith), rows_none a.dog.now a.t (border + 1))

pub returns-then-not-w-clause-holds_until_bad : goal.returns-then-not-w-clause-holds_until_bad
returns-then-not-w-clause-holds_until_bad c = held_kept _ _ _ _ _ 0 _ _ c.loop-r.invariant.0 c.row_words-w.ensures.out_after

pub returns-then-not-w-clause-bad : goal.returns-then-not-w-clause-bad
returns-then-not-w-clause-bad c =
    let a = c.args in
    row_bad a.dog.now a.t c.requires.searched.whole (c.loop-r.r + 1) (omega arith) (sym c.row_words-w.ensures.good_value ∙ not-true _ c.if-not-w.true)

pub returns-then-w-hold-clause-holds : goal.returns-then-w-hold-clause-holds
returns-then-w-hold-clause-holds c = held_kept _ _ _ _ _ 0 _ _ c.loop-r.invariant.0 c.row_words-w.ensures.out_after

pub loop-r-preserved : goal.loop-r-preserved
unfolding rows_good
loop-r-preserved c =
    let l = c.loop-r in
    let a = c.args in
    let w = c.row_words-w.ensures in
    (held_more _ _ _ _ _ _ _ _ l.invariant.0 w.out_after (omega arith) w.words_value (omega arith), rows_more a.dog.now a.t (border + 1) (l.r + 1) (omega arith) _ w.good_value (not-false _ c.if-not-w.false) l.invariant.1)
