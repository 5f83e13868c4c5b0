use mathlib.Core.Path.{◌∙◌, refl}
use mathlib.Core.Bool.{◌&&◌}
use native.Mathlib.Omega.{arith}
use lib.Ieee.Scale.{finite}
use Rattle.std.proofs.Common.{rules}
use Rattle.std.proofs.lemmas.Iterator.{YieldsList-from_range}
use Rattle.std.proofs.lemmas.Iterator.Search.{all_from_yields_List}
use Rattle.thin_rule.specs.Rule.{points_in, response_of}
use Rattle.thin.specs.Frames.{sided}
use Rattle.thin.proofs.Faults.{points_are}
use Rattle.thin.proofs.points_right.Goals as goal

pub returns : goal.returns
returns c =
    let ws = c.args.words.now in
    all_from_yields_List (λ i. sided ws c.sides_of-e.result i && finite (response_of ws i)) _ _ _ c.all.ensures.ran (YieldsList-from_range 0 (points_in ws) (points_in ws) refl (omega arith)) (λ x b q k. search rules)
    ∙ points_are ws _ _ _ _ c.sides_of-e.ensures
