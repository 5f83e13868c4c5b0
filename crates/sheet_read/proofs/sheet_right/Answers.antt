use mathlib.Core.Path.{◌≡◌, sym, ap, ◌∙◌}
use Prim.Native.Nat.{◌+◌, ◌*◌}
use lib.ListN.{length}
use native.Mathlib.Omega.{arith}
use Rattle.sheet.proofs.Lawful.{lawful_edition}
use Rattle.sheet.specs.Layout.{header_size, record_size}
use Rattle.sheet.specs.Sheet.{all_pass}
use Rattle.sheet.specs.Writes.{frame_of}
use Rattle.sheet_fields.specs.Fields.{record_bytes_right}
use Rattle.sheet_edition.specs.Edition.{layout_for}
use Rattle.sheet_read.proofs.Taken.{Room, room, bytes_times, bytes_count, body_parts, bad_header, bad_length, records_say}
use Rattle.sheet_read.proofs.sheet_right.Goals as goal
use Rattle.sheet_read.proofs.sheet_right.Goals.{After-header_in-h}

has_room : (c : After-header_in-h) → Room c.header_in-h.result
has_room c =
    let e = c.args.e in
    room (layout_for e) (lawful_edition e.number) c.header_in-h.result c.header_in-h.ensures.header_fits

pub returns-then-not-header_right : goal.returns-then-not-header_right
returns-then-not-header_right c =
    let h = c.header_in-h in
    sym (bad_header (layout_for c.args.e) c.args.sheet.now h.result h.ensures.sheet_value (sym c.header_right.ensures ∙ c.if-not-header_right.true))

pub overflow_mul-e : goal.overflow_mul-e
overflow_mul-e c =
    omega (arith, has_room (goal.at.overflow_mul-e c).After-header_in-h, bytes_count c.args.e c.header_in-h.result.count)

pub overflow_add-e : goal.overflow_add-e
overflow_add-e c =
    omega (arith, has_room (goal.at.overflow_add-e c).After-header_in-h, bytes_count c.args.e c.header_in-h.result.count)

pub returns-then-sheet-e : goal.returns-then-sheet-e
returns-then-sheet-e c =
    let h = c.header_in-h in
    sym (bad_length (layout_for c.args.e) c.args.sheet.now h.result h.ensures.sheet_value (λ z. omega (arith, c.if-sheet-e.true, z, bytes_times c.args.e h.result.count)))

pub overflow_add-frame : goal.overflow_add-frame
overflow_add-frame c = omega (arith, has_room (goal.at.overflow_add-frame c).After-header_in-h)

pub overflow_add-frame-2 : goal.overflow_add-frame-2
overflow_add-frame-2 c = omega (arith, has_room (goal.at.overflow_add-frame-2 c).After-header_in-h)

pub returns : goal.returns
returns c =
    let l = layout_for c.args.e in
    let h = c.header_in-h in
    let long : length c.args.sheet.now ≡ header_size + record_size l * h.result.count = omega (arith, c.if-sheet-e.false, bytes_times c.args.e h.result.count) in
    let right = record_bytes_right l (frame_of (h.result.width + 1) (h.result.height + 1) h.result.layers) in
    c.records_right.ensures
    ∙ ap (all_pass right) (body_parts c.args.e c.args.sheet.now h.result.count long)
    ∙ sym (records_say l c.args.sheet.now h.result h.ensures.sheet_value c.requires (sym c.header_right.ensures ∙ c.if-not-header_right.false) long)
