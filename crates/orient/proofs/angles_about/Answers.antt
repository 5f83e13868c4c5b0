use Rattle.orient.proofs.Checks.{ready_range, about}
use Rattle.orient.proofs.angles_about.Goals as goal

pub tally_of-g-requires : goal.tally_of-g-requires
tally_of-g-requires c = rw c.window_at.ensures (ready_range _ _ _ c.requires)

pub returns : goal.returns
returns c =
    about _ _ _ _ _ _ c.window_at.ensures c.tally_of-g.ensures c.angles_of.ensures
