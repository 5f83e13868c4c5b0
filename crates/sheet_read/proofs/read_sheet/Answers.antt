use mathlib.Core.Path.{◌≡◌, refl, sym, ap, ◌∙◌}
use mathlib.Core.Bool.{true}
use Prim.Native.Nat.{ℕ, ◌+◌, ◌*◌}
use native.Mathlib.Omega.{arith}
use lib.ListN.{length}
use Rattle.sheet.specs.Layout.{header_size, record_size}
use Rattle.sheet.specs.Sheet.{bytes_right}
use Rattle.sheet.specs.Reads.{layout_in}
use Rattle.sheet.proofs.Lawful.{lawful_edition}
use Rattle.sheet.proofs.Back.{kept}
use Rattle.sheet_edition.specs.Edition.{layout_for}
use Rattle.sheet_read.proofs.Taken.{Room, room, short_is, count_is, says_8, says_7, says_0}
use Rattle.sheet_read.proofs.read_sheet.Goals as goal
use Rattle.sheet_read.proofs.read_sheet.Goals.{After-edition_in-e, After-header_in-h, Else-not-sheet_right}

pub returns-then-sheet-lt-HEADER_BYTES : goal.returns-then-sheet-lt-HEADER_BYTES
returns-then-sheet-lt-HEADER_BYTES c =
    let bs = c.args.sheet.now in
    says_8 (layout_in bs) bs c.args.out.now refl (short_is (layout_in bs) bs c.if-sheet-lt-HEADER_BYTES.true)

-- the layout that the bytes state
stated : (c : After-edition_in-e) → layout_in c.args.sheet.now ≡ layout_for c.edition_in-e.result
stated c = sym c.edition_in-e.ensures

pub returns-then-not-sheet_right : goal.returns-then-not-sheet_right
returns-then-not-sheet_right c =
    says_8 (layout_for c.edition_in-e.result) c.args.sheet.now c.args.out.now (stated (goal.at.returns-then-not-sheet_right c).After-edition_in-e) (sym c.sheet_right.ensures ∙ c.if-not-sheet_right.true)

-- the bytes keep the rules
right : (c : Else-not-sheet_right) → bytes_right (layout_for c.edition_in-e.result) c.args.sheet.now ≡ true
right c = sym c.sheet_right.ensures ∙ c.if-not-sheet_right.false

has_room : (c : After-header_in-h) → Room c.header_in-h.result
has_room c =
    let e = c.edition_in-e.result in
    room (layout_for e) (lawful_edition e.number) c.header_in-h.result c.header_in-h.ensures.header_fits

pub overflow_mul-n : goal.overflow_mul-n
overflow_mul-n c = omega (arith, has_room (goal.at.overflow_mul-n c).After-header_in-h)

pub returns-then-out-n : goal.returns-then-out-n
returns-then-out-n c =
    let h = c.header_in-h in
    says_7 (layout_for c.edition_in-e.result) c.args.sheet.now c.args.out.now (stated (goal.at.returns-then-out-n c).After-edition_in-e) h.result h.ensures.sheet_value (right (goal.at.returns-then-out-n c).Else-not-sheet_right) c.if-out-n.true

pub take_records-requires-clause-n_records : goal.take_records-requires-clause-n_records
take_records-requires-clause-n_records c =
    let l = layout_for c.edition_in-e.result in
    let h = c.header_in-h in
    let n : length c.args.sheet.now ≡ header_size + record_size l * h.result.count = (kept l c.args.sheet.now (right (goal.at.take_records-requires-clause-n_records c).Else-not-sheet_right)).exact
    ∙ ap (λ (m : ℕ). header_size + record_size l * m) (count_is l c.args.sheet.now h.result h.ensures.sheet_value) in
    omega arith

pub take_records-requires-clause-n_in_bounds : goal.take_records-requires-clause-n_in_bounds
take_records-requires-clause-n_in_bounds c = omega (arith, c.if-out-n.false)

pub overflow_add-result : goal.overflow_add-result
overflow_add-result c = omega (arith, has_room (goal.at.overflow_add-result c).After-header_in-h)

pub overflow_add-result-2 : goal.overflow_add-result-2
overflow_add-result-2 c = omega (arith, has_room (goal.at.overflow_add-result-2 c).After-header_in-h)

pub overflow_cast-result : goal.overflow_cast-result
overflow_cast-result c = omega (arith, has_room (goal.at.overflow_cast-result c).After-header_in-h)

pub returns : goal.returns
returns c =
    let h = c.header_in-h in
    says_0 (layout_for c.edition_in-e.result) c.args.sheet.now c.args.out.now (stated (goal.at.returns c).After-edition_in-e) h.result h.ensures.sheet_value (right (goal.at.returns c).Else-not-sheet_right) (lawful_edition c.edition_in-e.result.number) _ c.if-out-n.false c.take_records.ensures
