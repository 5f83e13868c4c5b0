use Prim.Native.Nat.{◌+◌}
use mathlib.Core.Path.{sym, ◌∙◌}
use native.Mathlib.Omega.{arith}
use Rattle.params.specs.Limits.{border}
use Rattle.detect_hold.proofs.Parts.{held_none}
use Rattle.detect_hold.proofs.Tested.{all_tested, rows_bad}
use Rattle.detect_hold.proofs.front_of.Goals as goal

pub returns-then-not-rows_good-clause-holds_until_bad : goal.returns-then-not-rows_good-clause-holds_until_bad
returns-then-not-rows_good-clause-holds_until_bad c = held_none _ _ _ _ (omega arith)

pub returns-then-not-rows_good-clause-bad : goal.returns-then-not-rows_good-clause-bad
returns-then-not-rows_good-clause-bad c =
    let a = c.args in
    rows_bad a.dog.now a.t c.requires.searched.whole 0 (border + 1) (omega arith) (sym c.rows_good.ensures ∙ c.if-not-rows_good.true)

pub returns-then-not-rows_good-2-clause-bad : goal.returns-then-not-rows_good-2-clause-bad
returns-then-not-rows_good-2-clause-bad c =
    let a = c.args in
    rows_bad a.dog.now a.t c.requires.searched.whole _ a.t.height (omega arith) (sym c.rows_good-2.ensures ∙ c.if-not-rows_good-2.true)

pub returns-clause-good : goal.returns-clause-good
returns-clause-good c =
    let a = c.args in
    all_tested a.dog.now a.t c.requires.searched.whole (border + 1) (c.in_ok-f.f.row + 1) (sym c.rows_good.ensures ∙ c.if-not-rows_good.false) c.in_ok-f.ensures.tested (sym c.rows_good-2.ensures ∙ c.if-not-rows_good-2.false)
