use mathlib.Core.Path.{◌≡◌, ap, ◌∙◌}
use Rattle.std.specs.Prelude.{Some}
use Rattle.audit_compare.specs.declared.agreement.Difference.TheVariants.{Field, Missing}
use Rattle.audit_compare.specs.Standing.{standing_of, standing_in}
use Rattle.audit_verdict.proofs.Numbers.{told_differs, told_missing, told_over, told_all, told_alike}
use Rattle.audit_verdict.proofs.told.Goals as goal

pub returns-in-Some-Field : goal.returns-in-Some-Field
returns-in-Some-Field c =
    let g = c.agreement_of-a in
    let d = c.in-Some-Field in
    let e : d.field-0 ≡ Field d.field = rw d.is at d.field-0-is in
    told_differs c.args.n g.result d.field (d.is ∙ ap Some e) ∙ told_alike c.args.n (standing_of g.result) (standing_in c.args.st) g.ensures.place g.ensures.field

pub returns-in-Some-Missing : goal.returns-in-Some-Missing
returns-in-Some-Missing c =
    let g = c.agreement_of-a in
    let d = c.in-Some-Missing in
    let e : d.field-0 ≡ Missing = rw d.is at d.field-0-is in
    told_missing c.args.n g.result (d.is ∙ ap Some e) ∙ told_alike c.args.n (standing_of g.result) (standing_in c.args.st) g.ensures.place g.ensures.field

pub returns-in-None : goal.returns-in-None
returns-in-None c =
    let g = c.agreement_of-a in
    told_over c.args.n g.result c.in-None.is c.if-a-n.true ∙ told_alike c.args.n (standing_of g.result) (standing_in c.args.st) g.ensures.place g.ensures.field

pub returns-in-None-2 : goal.returns-in-None-2
returns-in-None-2 c =
    let g = c.agreement_of-a in
    told_all c.args.n g.result c.in-None.is c.if-a-n.false ∙ told_alike c.args.n (standing_of g.result) (standing_in c.args.st) g.ensures.place g.ensures.field
