use mathlib.Core.Path.{◌∙◌}
use Rattle.packing.proofs.Fields.{finite_is}
use Rattle.ieee.proofs.is_finite.Goals as goal

pub returns : goal.returns
returns c = c.is_finite.ensures.value ∙ finite_is c.args.v
