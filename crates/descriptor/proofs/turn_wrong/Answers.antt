use mathlib.Core.Path.{refl}
use Rattle.descriptor.specs.Place.{turn_wrong}
use Rattle.descriptor.proofs.turn_wrong.Goals as goal

pub returns : goal.returns
unfolding turn_wrong
returns c = refl
