-- The octave of the inputs' entry, read back from its bits. Assumes nothing.
use mathlib.Core.Path.{◌≡◌, ◌∙◌}
use lib.IntN.{ℤ}
use mir.Syntax.{w32}
use mir.Val.{SFits, to_z, of_z}
use mir.ValLaws.{to_z-of_z}
use Rattle.orient_words.specs.declared.OrientedKeypoint.{OrientedKeypoint}
use Rattle.descriptor_inputs.specs.Inputs.{inputs_of, Inputs}

pub told : (i : Inputs) (o o' : OrientedKeypoint) (z : ℤ) → SFits w32 z → o ≡ o' → i ≡ inputs_of o (to_z w32 (of_z w32 z)) → i ≡ inputs_of o' z
told i o o' z f e h = h ∙ rw (to_z-of_z w32 z f, e)
