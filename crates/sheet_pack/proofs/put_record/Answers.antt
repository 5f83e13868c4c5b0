use mathlib.Core.Path.{ap, ◌∙◌}
use native.Mathlib.Omega.{arith}
use Rattle.sheet.specs.Pack.{number}
use Rattle.sheet.specs.Layout.{head_slots}
use Rattle.sheet.proofs.Lawful.{lawful_edition, angled_edition}
use Rattle.sheet_edition.specs.Edition.{layout_for}
use Rattle.sheet_edition.proofs.Layouts.{size_is}
use Rattle.sheet_fields.specs.Fields.{any_frame}
use Rattle.sheet_pack.proofs.Written.{plain, head_room, value_byte, three_are}
use Rattle.sheet_pack.proofs.put_record.Goals as goal

pub head_of-requires : goal.head_of-requires
head_of-requires c =
    plain (layout_for c.args.e) c.args.words.now c.requires.words_len

pub head_number-head-requires : goal.head_number-head-requires
head_number-head-requires c =
    let l = layout_for c.args.e in
    let w = c.args.words.now in
    head_room l (lawful_edition c.args.e.number) (angled_edition c.args.e.number) w (plain l w c.requires.words_len) c.requires.held c.head_of.result c.head_of.ensures

pub put-requires : goal.put-requires
put-requires c =
    let n = size_is c.args.e in
    omega arith

pub put_floats-requires-clause-plain_words_in_bounds : goal.put_floats-requires-clause-plain_words_in_bounds
put_floats-requires-clause-plain_words_in_bounds c =
    let n = size_is c.args.e in
    plain (layout_for c.args.e) c.args.words.now c.requires.words_len

pub put_floats-requires-clause-float_words_in_bounds : goal.put_floats-requires-clause-float_words_in_bounds
put_floats-requires-clause-float_words_in_bounds c =
    let n = size_is c.args.e in
    omega arith

pub overflow_sub-e : goal.overflow_sub-e
overflow_sub-e c =
    let n = size_is c.args.e in
    omega (arith, n, c.args.e.bytes_are)

pub overflow_add-at-2 : goal.overflow_add-at-2
overflow_add-at-2 c =
    let n = size_is c.args.e in
    omega (arith, n, c.args.e.bytes_are)

pub put_values-requires-clause-plain_words_in_bounds : goal.put_values-requires-clause-plain_words_in_bounds
put_values-requires-clause-plain_words_in_bounds c =
    let l = layout_for c.args.e in
    let w = c.args.words.now in
    let b = c.args.e.bytes_are in
    let n = size_is c.args.e in
    plain l w c.requires.words_len

pub put_values-requires-clause-value_count_in_bounds : goal.put_values-requires-clause-value_count_in_bounds
put_values-requires-clause-value_count_in_bounds c =
    let l = layout_for c.args.e in
    let w = c.args.words.now in
    let b = c.args.e.bytes_are in
    let n = size_is c.args.e in
    omega arith

pub put_values-requires-clause-by_index : goal.put_values-requires-clause-by_index
put_values-requires-clause-by_index c =
    let l = layout_for c.args.e in
    let w = c.args.words.now in
    let b = c.args.e.bytes_are in
    let n = size_is c.args.e in
    value_byte l (lawful_edition c.args.e.number) (angled_edition c.args.e.number) w (plain l w c.requires.words_len) c.requires.held

pub returns : goal.returns
returns c =
    let l = layout_for c.args.e in
    let w = c.args.words.now in
    let h = c.head_number-head.ensures ∙ ap (number (head_slots (layout_for c.args.e) any_frame)) c.head_of.ensures in
    three_are l (lawful_edition c.args.e.number) (angled_edition c.args.e.number) w (plain l w c.requires.words_len) c.requires.held c.args.at _ _ c.args.out.now _ _ _ c.requires.e_in_bounds h c.args.e.bytes_are
    c.put.ensures c.put_floats.ensures c.put_values.ensures
