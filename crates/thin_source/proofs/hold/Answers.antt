use native.Mathlib.Omega.{arith}
use mathlib.Core.Path.{ap, ◌∙◌}
use mathlib.Core.List.{[]}
use Rattle.thin_source.specs.Sources.{is_all}
use Rattle.thin_source.proofs.Covering.{covers_any, covers_few, covers_many}
use Rattle.thin_source.proofs.Adding.{added_many, added_covers}
use Rattle.thin_source.proofs.hold.Goals as goal

pub put-many-requires-clause-stands : goal.put-many-requires-clause-stands
put-many-requires-clause-stands c = (covers_any _ _ _ _ _ (ap is_all c.in-All.is) c.requires.covers).stands

pub put-many-requires-clause-t_bound : goal.put-many-requires-clause-t_bound
put-many-requires-clause-t_bound c =
    let f = covers_few _ _ _ _ (covers_any _ _ _ [] _ (ap is_all c.in-All.is) c.requires.covers) in
    let n = c.requires.ordered.1.few in
    omega arith

pub returns-then-many-s-clause-many_value : goal.returns-then-many-s-clause-many_value
returns-then-many-s-clause-many_value c =
    let h = covers_any _ _ _ [] _ (ap is_all c.in-All.is) c.requires.covers in
    let a = c.put-many.ensures in
    (added_many _ _ _ _ _ _ _ h a, added_covers _ _ _ _ _ _ _ h a c.if-many-s.true)

pub returns-else-many-s-clause-many_value : goal.returns-else-many-s-clause-many_value
returns-else-many-s-clause-many_value c =
    let z = ap is_all c.in-All.is in
    (added_many _ _ _ _ _ _ _ (covers_any _ _ _ [] _ z c.requires.covers) c.put-many.ensures, covers_any _ _ _ _ _ z c.requires.covers)

pub returns-in-Held-clause-many_value : goal.returns-in-Held-clause-many_value
returns-in-Held-clause-many_value c = (c.tally.ensures ∙ covers_many _ _ _ _ c.requires.covers, c.requires.covers)
