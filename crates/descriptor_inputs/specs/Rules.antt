-- Law: what is proved of the descriptor's inputs beyond the entry's contract: proofs/Rules.antt proves each. Definitions only.
use Rattle.std.specs.Prelude.{ℕ, ◌≤◌, ◌≡◌, true, pos, Float}
use Rattle.ieee.specs.Numbers.{nought, whole_turn}
use Rattle.params.specs.Limits.{max_octave, scale_low, scale_high}
use Rattle.params.specs.Table.{within}
use Rattle.params.specs.declared.Settings.{Settings}
use Rattle.picture.specs.declared.Size.{Size}
use Rattle.detect_keypoint.specs.Sound.{Sound}
use Rattle.detect_keypoint.specs.declared.RawKeypoint.{RawKeypoint}
use Rattle.orient_words.specs.Oriented.{oriented_of}
use Rattle.orient_words.specs.declared.OrientedKeypoint.{OrientedKeypoint}
use Rattle.descriptor_inputs.specs.Inputs.{reversed_of, given_of, inputs_of}

-- the oriented keypoint of that octave is accepted, and its scale and angle lie where the descriptor takes them
pub record Taken (o : OrientedKeypoint) (octave : ℕ) : Type 0 where
  pub given : inputs_of o (pos octave) ≡ given_of o octave
  pub scale : within scale_low scale_high (inputs_of o (pos octave)).scale ≡ true
  pub angle : within nought whole_turn (inputs_of o (pos octave)).angle ≡ true

pub record InputRule : Type 0 where
  -- an angle in 0 to 360 is reversed to one in 0 to 360
  pub reversed : (angle : Float) → within nought whole_turn angle ≡ true → within nought whole_turn (reversed_of angle) ≡ true
  -- a keypoint of detection with any angle in 0 to 360, as orientation gives it
  pub taken : (s : Size) (octave : ℕ) (settings : Settings) (k : RawKeypoint) (angle : Float) → octave ≤ max_octave → Sound s.width s.height settings octave k
      → within nought whole_turn angle ≡ true → Taken (oriented_of k angle) octave
