use mathlib.Core.Path.{refl, ap}
use Rattle.thin_source.specs.Sources.{is_all}
use Rattle.thin_source.proofs.Splitting.{held_listed, upper_listed, lower_listed, split_held, split_all}
use Rattle.thin_source.proofs.split.Goals as goal

pub part-third-requires-clause-listed : goal.part-third-requires-clause-listed
part-third-requires-clause-listed c = held_listed _ _ _ _ _ c.in-Held.is c.requires.covers.stands

pub part-second-requires-clause-listed : goal.part-second-requires-clause-listed
part-second-requires-clause-listed c = upper_listed _ _ _ _ _ _ _ c.part-third.ensures (held_listed _ _ _ _ _ c.in-Held.is c.requires.covers.stands)

pub part-fourth-requires-clause-listed : goal.part-fourth-requires-clause-listed
part-fourth-requires-clause-listed c = lower_listed _ _ _ _ _ _ _ _ _ _ c.part-third.ensures c.part-second.ensures (held_listed _ _ _ _ _ c.in-Held.is c.requires.covers.stands)

pub returns-in-Held : goal.returns-in-Held
returns-in-Held c = split_held _ _ _ _ _ _ _ _ _ _ _ _ _ _ c.in-Held.is c.requires.ordered.1 c.requires.ordered.0 c.requires.covers c.edge_at-x.ensures c.edge_at-y.ensures c.part-third.ensures c.part-second.ensures c.part-fourth.ensures

pub returns-in-All : goal.returns-in-All
returns-in-All c = split_all _ _ _ _ _ (ap is_all c.in-All.is) c.requires.ordered.0 c.requires.covers
