-- Law: two keypoints of a stack and of its negative. Definitions only.
use Rattle.std.specs.Prelude.{◌≡◌}
use Rattle.ieee_laws.specs.Sign.{Same}
use Rattle.detect_keypoint.specs.declared.RawKeypoint.{RawKeypoint}

-- The same in every field. The offset xi is the same number, and a zero there may have either sign; the other floats are equal to the last bit.
pub record SameKeypoint (k l : RawKeypoint) : Type 0 where
  pub x : l.x ≡ k.x
  pub y : l.y ≡ k.y
  pub size : l.size ≡ k.size
  pub response : l.response ≡ k.response
  pub octave : l.octave ≡ k.octave
  pub layer : l.layer ≡ k.layer
  pub xi : Same k.xi l.xi
  pub cc : l.cc ≡ k.cc
  pub rr : l.rr ≡ k.rr
  pub moves : l.moves ≡ k.moves
