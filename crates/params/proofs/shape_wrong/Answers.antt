use mathlib.Core.Path.{refl}
use Rattle.params.specs.Table.{shape_wrong}
use Rattle.params.proofs.shape_wrong.Goals as goal

pub returns : goal.returns
unfolding shape_wrong
returns c = refl
