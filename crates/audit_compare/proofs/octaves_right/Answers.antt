use mathlib.Core.Path.{refl, ◌∙◌}
use native.Mathlib.Omega.{arith}
use Rattle.std.proofs.Common.{rules}
use Rattle.std.proofs.lemmas.Iterator.{YieldsList-from_range}
use Rattle.std.proofs.lemmas.Iterator.Search.{all_from_yields_List}
use Rattle.sheet_edition.specs.Edition.{layout_for}
use Rattle.audit_compare.proofs.Octaves.{right_at, octaves_are}
use Rattle.audit_compare.proofs.octaves_right.Goals as goal

pub returns : goal.returns
returns c =
    let a = c.args in
    let l = layout_for a.e in
    all_from_yields_List (right_at l a.octave a.n a.body.now) _ _ _ c.all.ensures.ran (YieldsList-from_range 0 a.n a.n refl (omega arith)) (λ x b q k. search rules)
    ∙ octaves_are l a.octave a.n a.body.now
