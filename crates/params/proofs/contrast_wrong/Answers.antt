use Rattle.params.specs.Table.{contrast_wrong}
use Rattle.params.proofs.contrast_wrong.Goals as goal

pub returns : goal.returns
unfolding contrast_wrong
returns c = rw c.is_within.ensures
