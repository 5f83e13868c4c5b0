use mathlib.Core.Path.{refl}
use lib.Ieee.{of_bits}
use Rattle.words.specs.Oriented.{unoriented}
use Rattle.words.proofs.unoriented_keypoint.Goals as goal

pub returns : goal.returns
unfolding unoriented of_bits
returns c = refl
