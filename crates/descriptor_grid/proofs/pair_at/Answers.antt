use mathlib.Core.Path.{refl}
use Rattle.descriptor_grid.specs.Grid.{pair_at}
use Rattle.descriptor_grid.proofs.pair_at.Goals as goal

pub returns : goal.returns
unfolding pair_at
returns c = refl
