use Prim.Native.Nat.{ℕ, ◌*◌, ◌/◌, ◌^◌, ◌<◌}
use mathlib.Core.Path.{refl, sym, subst}
use native.Mathlib.Omega.{arith}
use Rattle.sheet.specs.Pack.Held.{none}
use Rattle.sheet.proofs.Lawful.{lawful_edition, header_bits}
use Rattle.sheet_edition.specs.Edition.{layout_for}
use Rattle.sheet_edition.proofs.Layouts.{sides_pos, marks_pos, spare_pos, spare_low}
use Rattle.sheet_fields.proofs.Joined.{none_cut, cut_off, cut_held, all_held, all_cut, spare_header}
use Rattle.sheet_fields.proofs.cut_header.Goals as goal

pub overflow_mul-spare : goal.overflow_mul-spare
overflow_mul-spare c = let l = spare_low c.args.e in omega arith

pub nonzero_div-rule : goal.nonzero_div-rule
nonzero_div-rule c = let p = spare_pos c.args.e in omega arith

pub nonzero_div-count : goal.nonzero_div-count
nonzero_div-count c = marks_pos c.args.e

pub nonzero_div-wide : goal.nonzero_div-wide
nonzero_div-wide c = sides_pos c.args.e

pub nonzero_div-result : goal.nonzero_div-result
nonzero_div-result c = sides_pos c.args.e

pub nonzero_rem-result : goal.nonzero_rem-result
nonzero_rem-result c = sides_pos c.args.e

pub nonzero_rem-result-2 : goal.nonzero_rem-result-2
nonzero_rem-result-2 c = sides_pos c.args.e

pub nonzero_rem-result-5 : goal.nonzero_rem-result-5
nonzero_rem-result-5 c = marks_pos c.args.e

pub nonzero_rem-result-6 : goal.nonzero_rem-result-6
nonzero_rem-result-6 c = let p = spare_pos c.args.e in omega arith

pub returns-clause-n_value : goal.returns-clause-n_value
returns-clause-n_value c =
    let e = c.args.e in
    let n = c.args.n in
    let h = (cut_held (cut_held (cut_held (cut_held (cut_held (cut_held none n (e.spare * 16) (spare_header e)) ((n / (e.spare * 16))) e.marks e.marks_are) (((n / (e.spare * 16)) / e.marks)) 1048576 refl) ((((n / (e.spare * 16)) / e.marks) / 1048576)) 16 refl) (((((n / (e.spare * 16)) / e.marks) / 1048576) / 16)) e.sides e.sides_are) ((((((n / (e.spare * 16)) / e.marks) / 1048576) / 16) / e.sides)) e.sides e.sides_are) in
    let t = (cut_off (cut_off (cut_off (cut_off (cut_off (cut_off (none_cut n) (e.spare * 16) (spare_header e)) e.marks e.marks_are) 1048576 refl) 16 refl) e.sides e.sides_are) e.sides e.sides_are) in
    let l = subst (λ (m : ℕ). n < 2 ^ m) (sym (header_bits (layout_for e) (lawful_edition e.number))) c.ranges.n.fits in
    all_cut _ h t l

pub returns-clause-header_fits : goal.returns-clause-header_fits
returns-clause-header_fits c =
    let e = c.args.e in
    let n = c.args.n in
    let h = (cut_held (cut_held (cut_held (cut_held (cut_held (cut_held none n (e.spare * 16) (spare_header e)) ((n / (e.spare * 16))) e.marks e.marks_are) (((n / (e.spare * 16)) / e.marks)) 1048576 refl) ((((n / (e.spare * 16)) / e.marks) / 1048576)) 16 refl) (((((n / (e.spare * 16)) / e.marks) / 1048576) / 16)) e.sides e.sides_are) ((((((n / (e.spare * 16)) / e.marks) / 1048576) / 16) / e.sides)) e.sides e.sides_are) in
    let t = (cut_off (cut_off (cut_off (cut_off (cut_off (cut_off (none_cut n) (e.spare * 16) (spare_header e)) e.marks e.marks_are) 1048576 refl) 16 refl) e.sides e.sides_are) e.sides e.sides_are) in
    let l = subst (λ (m : ℕ). n < 2 ^ m) (sym (header_bits (layout_for e) (lawful_edition e.number))) c.ranges.n.fits in
    all_held _ h t l
