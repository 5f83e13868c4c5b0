use Prim.Native.Nat.{ℕ, ◌^◌, ◌<◌}
use mathlib.Core.Path.{refl, subst}
use lib.Dec.{lit≤}
use native.Mathlib.Nat.{lt_of_lt_of_le}
use Rattle.sheet.specs.Pack.{number}
use Rattle.sheet.specs.Layout.{head_slots}
use Rattle.sheet.proofs.Packed.{number_lt}
use Rattle.sheet.proofs.Lawful.{lawful_edition, head_bits}
use Rattle.sheet_edition.specs.Edition.{layout_for}
use Rattle.sheet_edition.specs.declared.Edition.{Edition}
use Rattle.sheet_fields.specs.declared.Head.{Head}
use Rattle.sheet_fields.specs.Fields.{head_values, HeadFits, any_frame}
use Rattle.sheet_fields.proofs.Joined.{first_stands, next_stands, step_fits, all_joined}
use Rattle.sheet_fields.proofs.head_number.Goals as goal

-- all bits are 48, and so no step is more than a u64 holds
small : (e : Edition) → (h : Head) → HeadFits (layout_for e) h → number (head_slots (layout_for e) any_frame) (head_values h) < 2 ^ 64
small e h f = lt_of_lt_of_le (subst (λ (n : ℕ). number (head_slots (layout_for e) any_frame) (head_values h) < 2 ^ n) (head_bits (layout_for e) any_frame (lawful_edition e.number)) (number_lt f)) (lit≤ tt)

pub behind-column-requires : goal.behind-column-requires
behind-column-requires c =
    let e = c.args.e in
    let t1 = first_stands _ c.requires in
    step_fits t1 e.sides e.sides_are (2 ^ 64) (small e c.args.h c.requires)

pub behind-octave-requires : goal.behind-octave-requires
behind-octave-requires c =
    let e = c.args.e in
    let t1 = first_stands _ c.requires in
    let t2 = next_stands t1 e.sides e.sides_are c.behind-column.result c.behind-column.ensures in
    step_fits t2 16 refl (2 ^ 64) (small e c.args.h c.requires)

pub behind-layer-requires : goal.behind-layer-requires
behind-layer-requires c =
    let e = c.args.e in
    let t1 = first_stands _ c.requires in
    let t2 = next_stands t1 e.sides e.sides_are c.behind-column.result c.behind-column.ensures in
    let t3 = next_stands t2 16 refl c.behind-octave.result c.behind-octave.ensures in
    step_fits t3 16 refl (2 ^ 64) (small e c.args.h c.requires)

pub behind-code-requires : goal.behind-code-requires
behind-code-requires c =
    let e = c.args.e in
    let t1 = first_stands _ c.requires in
    let t2 = next_stands t1 e.sides e.sides_are c.behind-column.result c.behind-column.ensures in
    let t3 = next_stands t2 16 refl c.behind-octave.result c.behind-octave.ensures in
    let t4 = next_stands t3 16 refl c.behind-layer.result c.behind-layer.ensures in
    step_fits t4 256 refl (2 ^ 64) (small e c.args.h c.requires)

pub behind-blank-requires : goal.behind-blank-requires
behind-blank-requires c =
    let e = c.args.e in
    let t1 = first_stands _ c.requires in
    let t2 = next_stands t1 e.sides e.sides_are c.behind-column.result c.behind-column.ensures in
    let t3 = next_stands t2 16 refl c.behind-octave.result c.behind-octave.ensures in
    let t4 = next_stands t3 16 refl c.behind-layer.result c.behind-layer.ensures in
    let t5 = next_stands t4 256 refl c.behind-code.result c.behind-code.ensures in
    step_fits t5 e.marks e.marks_are (2 ^ 64) (small e c.args.h c.requires)

pub behind-requires : goal.behind-requires
behind-requires c =
    let e = c.args.e in
    let t1 = first_stands _ c.requires in
    let t2 = next_stands t1 e.sides e.sides_are c.behind-column.result c.behind-column.ensures in
    let t3 = next_stands t2 16 refl c.behind-octave.result c.behind-octave.ensures in
    let t4 = next_stands t3 16 refl c.behind-layer.result c.behind-layer.ensures in
    let t5 = next_stands t4 256 refl c.behind-code.result c.behind-code.ensures in
    let t6 = next_stands t5 e.marks e.marks_are c.behind-blank.result c.behind-blank.ensures in
    step_fits t6 e.spare e.spare_is (2 ^ 64) (small e c.args.h c.requires)

pub returns : goal.returns
returns c =
    let e = c.args.e in
    let t1 = first_stands _ c.requires in
    let t2 = next_stands t1 e.sides e.sides_are c.behind-column.result c.behind-column.ensures in
    let t3 = next_stands t2 16 refl c.behind-octave.result c.behind-octave.ensures in
    let t4 = next_stands t3 16 refl c.behind-layer.result c.behind-layer.ensures in
    let t5 = next_stands t4 256 refl c.behind-code.result c.behind-code.ensures in
    let t6 = next_stands t5 e.marks e.marks_are c.behind-blank.result c.behind-blank.ensures in
    let t7 = next_stands t6 e.spare e.spare_is c.behind.result c.behind.ensures in
    all_joined t7
