use mathlib.Core.Path.{sym, ap, ◌∙◌}
use mathlib.Core.Bool.{Bool, cond}
use Rattle.sheet.proofs.Lawful.{lawful_edition}
use Rattle.sheet_edition.specs.Edition.{layout_for}
use Rattle.sheet.proofs.Steps.{all_nought}
use Rattle.sheet_unpack.proofs.Taken.{marked, unmarked, head_word, added_marked, added_unmarked}
use Rattle.sheet_unpack.proofs.blank_in.Goals as goal

pub overflow_cast-result : goal.overflow_cast-result
overflow_cast-result c =
    let e = c.args.e in
    let h = c.head_in in
    record { fits = head_word (layout_for e) (lawful_edition e.number) h.result h.ensures.head_fits 5 }

pub returns-then-e-eq2 : goal.returns-then-e-eq2
returns-then-e-eq2 c =
    let h = c.head_in in
    added_marked (layout_for c.args.e) c.args.bytes.now h.result h.ensures.bytes_value (marked c.args.e c.if-e-eq2.true)

pub returns-then-values_zero : goal.returns-then-values_zero
returns-then-values_zero c =
    ap (λ (b : Bool). cond b 2 0) (sym c.if-values_zero.true) ∙ added_unmarked (layout_for c.args.e) c.args.bytes.now (unmarked c.args.e c.if-e-eq2.false) _ (c.values_zero.ensures ∙ all_nought _)

pub returns : goal.returns
returns c =
    ap (λ (b : Bool). cond b 2 0) (sym c.if-values_zero.false) ∙ added_unmarked (layout_for c.args.e) c.args.bytes.now (unmarked c.args.e c.if-e-eq2.false) _ (c.values_zero.ensures ∙ all_nought _)
