use Rattle.params.specs.Table.{settings_wrong}
use Rattle.params.proofs.settings_wrong.Goals as goal

pub returns : goal.returns
unfolding settings_wrong
returns c = rw (c.is_within-2.ensures, c.is_within.ensures, c.contrast_wrong.ensures)
