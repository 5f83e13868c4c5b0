-- `round_ties_even` meets its contract: it is one of the ways to a whole number. Assumes nothing.
use mathlib.Core.Path.{◌∙◌}
use Rattle.ieee_whole.proofs.Wholes.{even_whole}
use Rattle.ieee_whole.proofs.round_ties_even.Goals as goal

pub returns : goal.returns
returns c = c.to_whole.ensures ∙ even_whole c.args.x
