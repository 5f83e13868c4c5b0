-- Law: what a candidate of a stack and of its negative gives. Definitions only.
use Rattle.std.specs.Prelude.{Option, Some, None}
use Rattle.detect_keypoint.specs.Sign.{SameKeypoint}
use Rattle.detect_keypoint.specs.declared.RawKeypoint.{RawKeypoint}

-- both dropped, or both kept and the same
pub data SameRefined : Option RawKeypoint → Option RawKeypoint → Type 0 where
  both_dropped : SameRefined None None
  both_at : {k l : RawKeypoint} → SameKeypoint k l → SameRefined (Some k) (Some l)
