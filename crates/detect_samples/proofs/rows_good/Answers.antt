use mathlib.Core.Path.{◌∙◌, refl}
use Rattle.std.proofs.Common.{rules}
use Rattle.std.proofs.lemmas.Iterator.{YieldsList-from_range}
use Rattle.std.proofs.lemmas.Iterator.Search.{all_from_yields_List}
use Rattle.detect_samples.specs.Rows.{span_good, rows_good}
use Rattle.detect_samples.proofs.Rows.{every_range}
use Rattle.detect_samples.proofs.rows_good.Goals as goal

pub returns : goal.returns
unfolding rows_good
returns c =
    let a = c.args in
    all_from_yields_List (λ r. span_good a.t r 0 a.t.width a.d.now) _ _ _ c.all.ensures.ran (YieldsList-from_range a.a a.b _ refl refl) (λ x b q k. search rules)
    ∙ every_range _ a.a _
