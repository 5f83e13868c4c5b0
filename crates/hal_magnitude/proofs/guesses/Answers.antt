use mathlib.Core.Path.{refl}
use lib.Ieee.{of_bits}
use Rattle.hal_magnitude.specs.Cubics.{cubics}
use Rattle.hal_magnitude.proofs.guesses.Goals as goal

pub returns : goal.returns
unfolding cubics of_bits
returns c = refl
