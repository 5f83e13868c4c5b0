use mathlib.Core.Path.{refl}
use Rattle.thin_region.proofs.Turns.{covers_whole}
use Rattle.thin_region.proofs.thin_all.Goals as goal

pub thin-requires-clause-covers : goal.thin-requires-clause-covers
thin-requires-clause-covers c = (covers_whole _ _ _ _ refl, c.reach_of.ensures)
