use mathlib.Core.Path.{refl, sym, ◌∙◌}
use Rattle.audit_compare.specs.Standing.{standing_of}
use Rattle.audit_rule.proofs.Form.{stated_in_lem}
use Rattle.audit_rule.proofs.Sheets.{long, header_right, records_in_lem, says_6, says_5, says_header, says_told}
use Rattle.audit.proofs.of_sheet.Goals as goal

pub edition_in-e-requires : goal.edition_in-e-requires
edition_in-e-requires c = long c.args.sheet.now c.requires.dog_value.1

pub header_in-h-requires : goal.header_in-h-requires
header_in-h-requires c = long c.args.sheet.now c.requires.dog_value.1

pub slice_bounds-body-count : goal.slice_bounds-body-count
slice_bounds-body-count c = long c.args.sheet.now c.requires.dog_value.1

pub slice_bounds-body-start : goal.slice_bounds-body-start
slice_bounds-body-start c = long c.args.sheet.now c.requires.dog_value.1

pub walk-requires-clause-stated : goal.walk-requires-clause-stated
walk-requires-clause-stated c = stated_in_lem _ _ _ _ _ _ c.requires.fine c.edition_in-e.result c.header_in-h.result.count _ (records_in_lem c.args.sheet.now c.requires.dog_value.1 c.edition_in-e.result c.edition_in-e.ensures c.header_in-h.result c.header_in-h.ensures.sheet_value)

pub returns-in_default : goal.returns-in_default
returns-in_default c =
    says_6 c.args.sheet.now c.requires.dog_value.1 c.edition_in-e.result c.edition_in-e.ensures c.header_in-h.result c.header_in-h.ensures.sheet_value c.args.dog.now c.args.gauss.now c.args.t c.args.octave c.args.s c.args.base c.requires.fine c.requires.dog_value.0 _ c.in_default.ensures.value refl

pub octaves_right-requires : goal.octaves_right-requires
octaves_right-requires c = records_in_lem c.args.sheet.now c.requires.dog_value.1 c.edition_in-e.result c.edition_in-e.ensures c.header_in-h.result c.header_in-h.ensures.sheet_value

pub returns-then-not-octaves_right : goal.returns-then-not-octaves_right
returns-then-not-octaves_right c =
    says_5 c.args.sheet.now c.requires.dog_value.1 c.edition_in-e.result c.edition_in-e.ensures c.header_in-h.result c.header_in-h.ensures.sheet_value c.args.dog.now c.args.gauss.now c.args.t c.args.octave c.args.s c.args.base c.requires.fine c.requires.dog_value.0 (standing_of c.in-Ok.agreement) c.in-Ok.ensures.value refl (sym c.octaves_right.ensures ∙ c.if-not-octaves_right.true)

pub header_difference-requires-clause-known : goal.header_difference-requires-clause-known
header_difference-requires-clause-known c = header_right c.args.sheet.now c.requires.dog_value.1 c.edition_in-e.result c.edition_in-e.ensures c.header_in-h.result c.header_in-h.ensures.sheet_value

pub returns-in-Some : goal.returns-in-Some
returns-in-Some c =
    let d = c.in-Some in
    says_header c.args.sheet.now c.requires.dog_value.1 c.edition_in-e.result c.edition_in-e.ensures c.header_in-h.result c.header_in-h.ensures.sheet_value c.args.dog.now c.args.gauss.now c.args.t c.args.octave c.args.s c.args.base c.requires.fine c.requires.dog_value.0 (standing_of c.in-Ok.agreement) c.in-Ok.ensures.value refl (sym c.octaves_right.ensures ∙ c.if-not-octaves_right.false) d.field d.ensures.value d.ensures.is_field.0

pub returns : goal.returns
returns c =
    c.told.ensures
    ∙ says_told c.args.sheet.now c.requires.dog_value.1 c.edition_in-e.result c.edition_in-e.ensures c.header_in-h.result c.header_in-h.ensures.sheet_value c.args.dog.now c.args.gauss.now c.args.t c.args.octave c.args.s c.args.base c.requires.fine c.requires.dog_value.0 (standing_of c.in-Ok.agreement) c.in-Ok.ensures.value refl (sym c.octaves_right.ensures ∙ c.if-not-octaves_right.false) 0 c.in_default-header_difference.ensures.value refl
