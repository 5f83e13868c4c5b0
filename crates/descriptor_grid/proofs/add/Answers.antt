use mathlib.Core.Path.{◌∙◌}
use Rattle.descriptor_grid.proofs.add.Goals as goal

pub returns : goal.returns
returns c = c.scatter.ensures ∙ rw c.spread_of.ensures.0
