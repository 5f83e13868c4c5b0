use mathlib.Core.Path.{refl}
use lib.Ieee.{of_bits}
use Rattle.words.specs.Keypoint.{broken}
use Rattle.words.proofs.broken_keypoint.Goals as goal

pub returns : goal.returns
unfolding broken of_bits
returns c = refl
