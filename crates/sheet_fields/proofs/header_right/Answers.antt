use mathlib.Core.Path.{ap, ◌∙◌}
use Prim.Native.Nat.{ℕ, ◌-◌}
use mathlib.Core.Bool.{◌&&◌}
use borrow.Author.Rules.{rules}
use lib.Dec.{leb, eqb}
use Rattle.sheet.specs.Pack.{sound}
use Rattle.sheet_edition.proofs.Layouts.{sides_pos}
use Rattle.sheet_fields.proofs.Ranges.{is_one, is_below, is_up_to, all_seven}
use Rattle.sheet_fields.proofs.header_right.Goals as goal

pub returns : goal.returns
unfolding sound
returns c =
    let e = c.args.e in
    let h = c.args.h in
    let below = λ (n : ℕ). is_below e.sides n (sides_pos e) ∙ ap (λ (s : ℕ). leb 0 n && leb n (s - 1)) e.sides_are in
    all_seven
    (ap (λ (n : ℕ). eqb h.edition n) e.number_is ∙ is_one _ h.edition)
    (below h.width) (below h.height) (search rules) (is_up_to _ h.count) (is_one 0 h.rule) (is_one 0 h.zero)
