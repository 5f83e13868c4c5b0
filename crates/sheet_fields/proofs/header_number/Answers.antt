use Prim.Native.Nat.{ℕ, ◌*◌, ◌^◌, ◌<◌}
use mathlib.Core.Path.{refl, subst}
use native.Mathlib.Omega.{arith}
use Rattle.sheet.specs.Pack.{number}
use Rattle.sheet.specs.Layout.{header_slots}
use Rattle.sheet.proofs.Packed.{number_lt}
use Rattle.sheet.proofs.Lawful.{lawful_edition, header_bits}
use Rattle.sheet_edition.specs.Edition.{layout_for}
use Rattle.sheet_edition.specs.declared.Edition.{Edition}
use Rattle.sheet_edition.proofs.Layouts.{spare_low}
use Rattle.sheet_fields.specs.declared.Header.{Header}
use Rattle.sheet_fields.specs.Fields.{header_list, HeaderFits}
use Rattle.sheet_fields.proofs.Joined.{first_stands, next_stands, step_fits, all_joined, spare_header}
use Rattle.sheet_fields.proofs.header_number.Goals as goal

-- all bits are 64, and so no step is more than a u64 holds
small : (e : Edition) → (h : Header) → HeaderFits (layout_for e) h → number (header_slots (layout_for e)) (header_list h) < 2 ^ 64
small e h f = subst (λ (n : ℕ). number (header_slots (layout_for e)) (header_list h) < 2 ^ n) (header_bits (layout_for e) (lawful_edition e.number)) (number_lt f)

pub behind-wide-requires : goal.behind-wide-requires
behind-wide-requires c =
    let e = c.args.e in
    let t1 = first_stands _ c.requires in
    step_fits t1 e.sides e.sides_are (2 ^ 64) (small e c.args.h c.requires)

pub behind-high-requires : goal.behind-high-requires
behind-high-requires c =
    let e = c.args.e in
    let t1 = first_stands _ c.requires in
    let t2 = next_stands t1 e.sides e.sides_are c.behind-wide.result c.behind-wide.ensures in
    step_fits t2 e.sides e.sides_are (2 ^ 64) (small e c.args.h c.requires)

pub behind-layers-requires : goal.behind-layers-requires
behind-layers-requires c =
    let e = c.args.e in
    let t1 = first_stands _ c.requires in
    let t2 = next_stands t1 e.sides e.sides_are c.behind-wide.result c.behind-wide.ensures in
    let t3 = next_stands t2 e.sides e.sides_are c.behind-high.result c.behind-high.ensures in
    step_fits t3 16 refl (2 ^ 64) (small e c.args.h c.requires)

pub behind-count-requires : goal.behind-count-requires
behind-count-requires c =
    let e = c.args.e in
    let t1 = first_stands _ c.requires in
    let t2 = next_stands t1 e.sides e.sides_are c.behind-wide.result c.behind-wide.ensures in
    let t3 = next_stands t2 e.sides e.sides_are c.behind-high.result c.behind-high.ensures in
    let t4 = next_stands t3 16 refl c.behind-layers.result c.behind-layers.ensures in
    step_fits t4 1048576 refl (2 ^ 64) (small e c.args.h c.requires)

pub behind-rule-requires : goal.behind-rule-requires
behind-rule-requires c =
    let e = c.args.e in
    let t1 = first_stands _ c.requires in
    let t2 = next_stands t1 e.sides e.sides_are c.behind-wide.result c.behind-wide.ensures in
    let t3 = next_stands t2 e.sides e.sides_are c.behind-high.result c.behind-high.ensures in
    let t4 = next_stands t3 16 refl c.behind-layers.result c.behind-layers.ensures in
    let t5 = next_stands t4 1048576 refl c.behind-count.result c.behind-count.ensures in
    step_fits t5 e.marks e.marks_are (2 ^ 64) (small e c.args.h c.requires)

pub overflow_mul-e : goal.overflow_mul-e
overflow_mul-e c = let l = spare_low c.args.e in omega arith

pub behind-requires : goal.behind-requires
behind-requires c =
    let e = c.args.e in
    let t1 = first_stands _ c.requires in
    let t2 = next_stands t1 e.sides e.sides_are c.behind-wide.result c.behind-wide.ensures in
    let t3 = next_stands t2 e.sides e.sides_are c.behind-high.result c.behind-high.ensures in
    let t4 = next_stands t3 16 refl c.behind-layers.result c.behind-layers.ensures in
    let t5 = next_stands t4 1048576 refl c.behind-count.result c.behind-count.ensures in
    let t6 = next_stands t5 e.marks e.marks_are c.behind-rule.result c.behind-rule.ensures in
    step_fits t6 (e.spare * 16) (spare_header e) (2 ^ 64) (small e c.args.h c.requires)

pub returns : goal.returns
returns c =
    let e = c.args.e in
    let t1 = first_stands _ c.requires in
    let t2 = next_stands t1 e.sides e.sides_are c.behind-wide.result c.behind-wide.ensures in
    let t3 = next_stands t2 e.sides e.sides_are c.behind-high.result c.behind-high.ensures in
    let t4 = next_stands t3 16 refl c.behind-layers.result c.behind-layers.ensures in
    let t5 = next_stands t4 1048576 refl c.behind-count.result c.behind-count.ensures in
    let t6 = next_stands t5 e.marks e.marks_are c.behind-rule.result c.behind-rule.ensures in
    let t7 = next_stands t6 (e.spare * 16) (spare_header e) c.behind.result c.behind.ensures in
    all_joined t7
