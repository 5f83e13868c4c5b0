use mathlib.Core.Path.{refl, sym, ◌∙◌}
use Rattle.audit_keypoint.proofs.Fault.{number_some}
use Rattle.audit_verdict.proofs.Numbers.{handed_on}
use Rattle.audit_rule.proofs.Form.{fine}
use Rattle.audit_rule.proofs.Checks.{form_refused, form_passed, stack_refused}
use Rattle.audit.proofs.check_sheet.Goals as goal

pub returns-in_err-form_fault : goal.returns-in_err-form_fault
returns-in_err-form_fault c =
    let a = c.args in
    handed_on c.from_residual.result _ c.from_residual.ensures.1 ∙ form_refused a.dog.now a.gauss.now a.t a.octave a.s a.base a.sheet.now _ c.in_err-form_fault.ensures (number_some _)

pub returns-then-not-all_good : goal.returns-then-not-all_good
returns-then-not-all_good c =
    let a = c.args in
    stack_refused a.dog.now a.gauss.now a.t a.octave a.s a.base a.sheet.now 0 c.in_ok-form_fault.ensures refl (sym c.all_good.ensures ∙ c.if-not-all_good.true)

pub of_sheet-requires-clause-fine : goal.of_sheet-requires-clause-fine
of_sheet-requires-clause-fine c = fine _ _ _ _ _ _ (sym c.in_ok-form_fault.ensures)

pub of_no_sheet-requires-clause-fine : goal.of_no_sheet-requires-clause-fine
of_no_sheet-requires-clause-fine c = fine _ _ _ _ _ _ (sym c.in_ok-form_fault.ensures)

pub returns-then-sheet_sound : goal.returns-then-sheet_sound
returns-then-sheet_sound c =
    let a = c.args in
    c.of_sheet.ensures ∙ form_passed a.dog.now a.gauss.now a.t a.octave a.s a.base a.sheet.now 0 c.in_ok-form_fault.ensures refl

pub returns-else-sheet_sound : goal.returns-else-sheet_sound
returns-else-sheet_sound c =
    let a = c.args in
    c.of_no_sheet.ensures ∙ form_passed a.dog.now a.gauss.now a.t a.octave a.s a.base a.sheet.now 0 c.in_ok-form_fault.ensures refl
