use mathlib.Core.Path.{ap, ◌∙◌}
use mathlib.Core.List.{List}
use Prim.Native.Nat.{ℕ}
use Rattle.sheet_edition.specs.Edition.{layout_for}
use Rattle.audit_compare.specs.Difference.{first_difference, fields_of}
use Rattle.audit_compare.specs.Standing.{field_of}
use Rattle.audit_compare.proofs.Further.{past_all, among}
use Rattle.audit_compare.proofs.difference_at.Goals as goal

pub returns-then-i-n-clause-value : goal.returns-then-i-n-clause-value
returns-then-i-n-clause-value c =
    past_all (layout_for c.args.e) c.args.n c.args.body.now c.args.i c.args.made.now c.if-i-n.true

pub returns-in_err-number-clause-value : goal.returns-in_err-number-clause-value
returns-in_err-number-clause-value c =
    let l = layout_for c.args.e in
    ap field_of c.from_residual.ensures
    ∙ c.in_err-number.ensures.value
    ∙ ap (λ (w : List ℕ). first_difference (fields_of l c.args.made.now) (fields_of l w)) c.words_at-words.ensures
    ∙ among l c.args.n c.args.body.now c.args.i c.args.made.now c.if-i-n.false

pub returns-clause-value : goal.returns-clause-value
returns-clause-value c =
    let l = layout_for c.args.e in
    c.in_ok-number.ensures.value
    ∙ ap (λ (w : List ℕ). first_difference (fields_of l c.args.made.now) (fields_of l w)) c.words_at-words.ensures
    ∙ among l c.args.n c.args.body.now c.args.i c.args.made.now c.if-i-n.false
