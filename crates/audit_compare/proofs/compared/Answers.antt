use mathlib.Core.Path.{refl, sym, ◌∙◌}
use native.Mathlib.Omega.{arith}
use Rattle.std.specs.Prelude.{Some}
use Rattle.sheet_edition.specs.Edition.{layout_for}
use Rattle.audit_compare.specs.Standing.{stated_in, standing_in}
use Rattle.audit_compare.proofs.Told.{some_field, none_field}
use Rattle.audit_compare.proofs.Further.{agreed, stays, differs_there, goes_on}
use Rattle.audit_compare.proofs.compared.Goals as goal

pub returns-then-is_some : goal.returns-then-is_some
returns-then-is_some c =
    let a = c.args in
    let g = c.agreement_of-a in
    stays (layout_for a.e) (stated_in (layout_for a.e) a.n a.body.now) (standing_in a.st) a.made.now (λ z. some_field g.result.difference g.result.numbered c.if-is_some.ensures (g.ensures.field ∙ z))

pub overflow_add-result : goal.overflow_add-result
overflow_add-result c =
    let a = c.args in
    omega (arith, agreed (layout_for a.e) a.n a.body.now c.agreement_of-a.result.place a.made.now c.in_default.ensures.value)

pub returns-in_default : goal.returns-in_default
returns-in_default c =
    let a = c.args in
    let g = c.agreement_of-a in
    let d = rw g.ensures.place at c.in_default.ensures.value in
    rw g.ensures.place (goes_on (layout_for a.e) (stated_in (layout_for a.e) a.n a.body.now) (standing_in a.st) a.made.now (sym g.ensures.field ∙ none_field g.result.difference c.if-is_some.ensures) 0 d refl)

pub returns : goal.returns
returns c =
    let a = c.args in
    let g = c.agreement_of-a in
    let d = c.in-Some in
    let v = rw g.ensures.place at d.ensures.value in
    rw g.ensures.place (differs_there (layout_for a.e) (stated_in (layout_for a.e) a.n a.body.now) (standing_in a.st) a.made.now (sym g.ensures.field ∙ none_field g.result.difference c.if-is_some.ensures) _ v (some_field (Some d.difference) d.ensures.numbered refl))
