use mathlib.Core.Path.{refl}
use Rattle.sheet_edition.specs.Edition.{layout_for}
use Rattle.audit_compare.specs.Standing.{stated_in, standing_of}
use Rattle.audit_rule.proofs.Answered.{says_8, says_six}
use Rattle.audit.proofs.of_no_sheet.Goals as goal

pub returns-in-Ok : goal.returns-in-Ok
returns-in-Ok c =
    let a = c.args in
    let l = layout_for c.edition_of.result in
    says_8 a.dog.now a.gauss.now a.t a.octave a.s a.base c.requires.fine c.requires.dog_value.0 a.sheet.now c.requires.dog_value.1 l (stated_in l 0 a.sheet.now) (standing_of c.in-Ok.field-0) c.in-Ok.ensures.value refl

pub returns-in-Err : goal.returns-in-Err
returns-in-Err c =
    let a = c.args in
    let l = layout_for c.edition_of.result in
    says_six a.dog.now a.gauss.now a.t a.octave a.s a.base c.requires.fine c.requires.dog_value.0 a.sheet.now c.requires.dog_value.1 l (stated_in l 0 a.sheet.now) _ c.in-Err.ensures.value refl
