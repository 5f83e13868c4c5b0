use Rattle.thin_region.proofs.Turns.{count_kept}
use Rattle.thin_region.proofs.count.Goals as goal

pub returns : goal.returns
returns c = count_kept _ _ _ _ _ _ _ c.thin_all.ensures
