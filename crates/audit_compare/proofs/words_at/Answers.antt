use mathlib.Core.Path.{ap, ◌∙◌}
use native.Mathlib.Omega.{arith}
use lib.ListN.{replicate, length-take, length-drop}
use Rattle.sheet.specs.Words.{read_words}
use Rattle.sheet_edition.specs.Edition.{layout_for}
use Rattle.sheet_fields.specs.Fields.{bytes_words}
use Rattle.audit_compare.proofs.Stated.{words_length, record_inside, record_at, pasted_all}
use Rattle.audit_compare.proofs.words_at.Goals as goal

pub overflow_mul-from : goal.overflow_mul-from
overflow_mul-from c = omega (arith, record_inside c.args.e _ _ _ c.requires.0 c.requires.1)

pub overflow_add-to : goal.overflow_add-to
overflow_add-to c = omega (arith, record_inside c.args.e _ _ _ c.requires.0 c.requires.1)

pub slice_bounds-take_record-end : goal.slice_bounds-take_record-end
slice_bounds-take_record-end c = omega (arith, record_inside c.args.e _ _ _ c.requires.0 c.requires.1)

pub take_record-requires-clause-bytes_len : goal.take_record-requires-clause-bytes_len
take_record-requires-clause-bytes_len c = rw (length-take, length-drop) (omega (arith, record_inside c.args.e _ _ _ c.requires.0 c.requires.1, c.args.e.bytes_are))

pub take_record-requires-clause-read_words_in_bounds : goal.take_record-requires-clause-read_words_in_bounds
take_record-requires-clause-read_words_in_bounds c = omega arith

pub returns : goal.returns
returns c =
    let l = layout_for c.args.e in
    c.take_record.ensures
    ∙ pasted_all (bytes_words l _) (replicate read_words 0) (words_length l _)
    ∙ ap (bytes_words l) (record_at c.args.e c.args.body.now c.args.i)
