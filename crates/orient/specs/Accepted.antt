-- Inner: what is known of arguments that passed the checks, no part of what a caller is promised. Definitions only.
use Rattle.std.specs.Prelude.{◌*◌, ◌<◌, ◌≤◌, ◌≡◌, true, List, length, Float}
use Rattle.params.specs.Limits.{max_side, max_octave, scale_low, scale_high}
use Rattle.params.specs.Table.{within}
use Rattle.picture.specs.declared.Size.{Size}
use Rattle.detect_keypoint.specs.declared.RawKeypoint.{RawKeypoint}
use Rattle.orient_window.specs.Good.{window_good}
use Rattle.orient.specs.Keypoint.{octave_in, scale_of}
use Rattle.orient.specs.Entry.{window_at}

-- the keypoint lies in a picture of that size, and its scale in its range
pub record Aimed (s : Size) (k : RawKeypoint) : Type 0 where
  pub high : s.height ≤ max_side
  pub wide : s.width ≤ max_side
  pub row : k.rr < s.height
  pub column : k.cc < s.width
  pub octave : octave_in k.octave ≤ max_octave
  pub scale : within scale_low scale_high (scale_of k) ≡ true

-- and the list is that picture's, with good samples where the window's slopes are taken
pub record Ready (img : List Float) (s : Size) (k : RawKeypoint) : Type 0 where
  pub whole : length img ≡ s.height * s.width
  pub aimed : Aimed s k
  pub good : window_good img (window_at s k) ≡ true
