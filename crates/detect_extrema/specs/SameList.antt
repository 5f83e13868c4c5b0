-- Law: two lists of keypoints, of a stack and of its negative. Definitions only.
use Rattle.std.specs.Prelude.{List, [], ◌∷◌}
use Rattle.detect_keypoint.specs.Sign.{SameKeypoint}
use Rattle.detect_keypoint.specs.declared.RawKeypoint.{RawKeypoint}

-- equally many keypoints, in the same order, each the same as its partner: whole numbers equal, floats equal but for the sign of a zero
pub data SameList : List RawKeypoint → List RawKeypoint → Type 0 where
  none : SameList [] []
  more : {k l : RawKeypoint} {ks ls : List RawKeypoint} → SameKeypoint k l → SameList ks ls → SameList (k ∷ ks) (l ∷ ls)
