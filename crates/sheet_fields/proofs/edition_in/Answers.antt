use mathlib.Core.Path.{ap, ◌∙◌}
use Prim.Native.Nat.{ℕ, ◌/◌}
use Rattle.sheet.specs.Layout.{layout_of}
use Rattle.sheet.specs.Reads.{edition_in}
use Rattle.sheet_edition.proofs.Layouts.{layout_is}
use Rattle.sheet_fields.proofs.edition_in.Goals as goal

pub returns : goal.returns
unfolding edition_in
returns c = layout_is _ c.edition_of.result c.edition_of.ensures ∙ ap (λ (n : ℕ). layout_of (n / 0x1000_0000_0000_0000)) c.get.ensures
