use mathlib.Core.Path.{ap, ◌∙◌}
use Prim.Native.Nat.{ℕ, ◌-◌}
use mathlib.Core.Bool.{◌&&◌}
use borrow.Author.Rules.{rules}
use lib.Dec.{leb}
use Rattle.sheet.specs.Pack.{sound}
use Rattle.sheet_edition.specs.Edition.{layout_for}
use Rattle.sheet_edition.proofs.Layouts.{marks_pos}
use Rattle.sheet_fields.proofs.Joined.{mark_top}
use Rattle.sheet_fields.proofs.Ranges.{is_one, is_below, is_up_to, all_seven}
use Rattle.sheet_fields.proofs.head_right.Goals as goal

pub returns : goal.returns
unfolding sound
returns c =
    let e = c.args.e in
    let f = c.args.frame in
    let h = c.args.head in
    let blank = is_below e.marks h.blank (marks_pos e) ∙ ap (λ (m : ℕ). leb 0 h.blank && leb h.blank (m - 1)) e.marks_are
    ∙ ap (λ (m : ℕ). leb 0 h.blank && leb h.blank m) (mark_top (layout_for e)) in
    all_seven (is_below f.height h.row f.sides.1) (is_below f.width h.column f.sides.0) (is_up_to _ h.octave) (search rules) (is_up_to _ h.code) blank (is_one 0 h.zero)
