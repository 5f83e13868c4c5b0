use mathlib.Core.Path.{sym, ◌∙◌, ap}
use Rattle.audit_verdict.specs.Verdict.{number_of, verdict_of, place_of, field_of}
use Rattle.audit_verdict.proofs.Numbers.{number_told}
use Rattle.bargeclover.proofs.bargeclover_check_sheet.Goals as goal

pub returns-clause-value : goal.returns-clause-value
returns-clause-value c =
    let told = c.check_sheet-a.ensures in
    c.number_of.ensures ∙ sym (number_told c.check_sheet-a.result) ∙ ap number_of told

pub returns-clause-verdict_after : goal.returns-clause-verdict_after
returns-clause-verdict_after c =
    let told = c.check_sheet-a.ensures in
    c.verdict_of.ensures ∙ ap verdict_of told

pub returns-clause-place_after : goal.returns-clause-place_after
returns-clause-place_after c =
    let told = c.check_sheet-a.ensures in
    c.place_of.ensures ∙ ap place_of told

pub returns-clause-field_after : goal.returns-clause-field_after
returns-clause-field_after c =
    let told = c.check_sheet-a.ensures in
    c.field_of.ensures ∙ ap field_of told
