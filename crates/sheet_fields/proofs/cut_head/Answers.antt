use Prim.Native.Nat.{ℕ, ◌/◌, ◌^◌, ◌<◌}
use mathlib.Core.Path.{refl, sym, subst}
use Rattle.sheet.specs.Pack.Held.{none}
use Rattle.sheet.proofs.Lawful.{lawful_edition, head_bits}
use Rattle.sheet_edition.specs.Edition.{layout_for}
use Rattle.sheet_edition.proofs.Layouts.{sides_pos, marks_pos, spare_pos}
use Rattle.sheet_fields.specs.Fields.{any_frame}
use Rattle.sheet_fields.proofs.Joined.{none_cut, cut_off, cut_held, all_held, all_cut}
use Rattle.sheet_fields.proofs.cut_head.Goals as goal

pub nonzero_div-blank : goal.nonzero_div-blank
nonzero_div-blank c = spare_pos c.args.e

pub nonzero_div-code : goal.nonzero_div-code
nonzero_div-code c = marks_pos c.args.e

pub nonzero_div-result : goal.nonzero_div-result
nonzero_div-result c = sides_pos c.args.e

pub nonzero_rem-result : goal.nonzero_rem-result
nonzero_rem-result c = sides_pos c.args.e

pub nonzero_rem-result-5 : goal.nonzero_rem-result-5
nonzero_rem-result-5 c = marks_pos c.args.e

pub nonzero_rem-result-6 : goal.nonzero_rem-result-6
nonzero_rem-result-6 c = spare_pos c.args.e

pub returns-clause-n_value : goal.returns-clause-n_value
returns-clause-n_value c =
    let e = c.args.e in
    let n = c.args.n in
    let h = (cut_held (cut_held (cut_held (cut_held (cut_held (cut_held none n e.spare e.spare_is) ((n / e.spare)) e.marks e.marks_are) (((n / e.spare) / e.marks)) 256 refl) ((((n / e.spare) / e.marks) / 256)) 16 refl) (((((n / e.spare) / e.marks) / 256) / 16)) 16 refl) ((((((n / e.spare) / e.marks) / 256) / 16) / 16)) e.sides e.sides_are) in
    let t = (cut_off (cut_off (cut_off (cut_off (cut_off (cut_off (none_cut n) e.spare e.spare_is) e.marks e.marks_are) 256 refl) 16 refl) 16 refl) e.sides e.sides_are) in
    let l = subst (λ (m : ℕ). n < 2 ^ m) (sym (head_bits (layout_for e) any_frame (lawful_edition e.number))) c.requires in
    all_cut _ h t l

pub returns-clause-head_fits : goal.returns-clause-head_fits
returns-clause-head_fits c =
    let e = c.args.e in
    let n = c.args.n in
    let h = (cut_held (cut_held (cut_held (cut_held (cut_held (cut_held none n e.spare e.spare_is) ((n / e.spare)) e.marks e.marks_are) (((n / e.spare) / e.marks)) 256 refl) ((((n / e.spare) / e.marks) / 256)) 16 refl) (((((n / e.spare) / e.marks) / 256) / 16)) 16 refl) ((((((n / e.spare) / e.marks) / 256) / 16) / 16)) e.sides e.sides_are) in
    let t = (cut_off (cut_off (cut_off (cut_off (cut_off (cut_off (none_cut n) e.spare e.spare_is) e.marks e.marks_are) 256 refl) 16 refl) 16 refl) e.sides e.sides_are) in
    let l = subst (λ (m : ℕ). n < 2 ^ m) (sym (head_bits (layout_for e) any_frame (lawful_edition e.number))) c.requires in
    all_held _ h t l
