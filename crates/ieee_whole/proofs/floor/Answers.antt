-- `floor` meets its contract: it is one of the ways to a whole number. Assumes nothing.
use mathlib.Core.Path.{◌∙◌}
use Rattle.ieee_whole.proofs.Wholes.{floor_whole}
use Rattle.ieee_whole.proofs.floor.Goals as goal

pub returns : goal.returns
returns c = c.to_whole.ensures ∙ floor_whole c.args.x
