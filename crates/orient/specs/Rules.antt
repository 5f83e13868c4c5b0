-- Law: what is proved of orientation beyond the entry's contract: proofs/Rules.antt proves each. Definitions only.
use Rattle.std.specs.Prelude.{ℕ, ◌*◌, ◌<◌, ◌≤◌, ◌≡◌, false, List, length, get_or, Float}
use Rattle.std.specs.Float.{nan}
use Rattle.params.specs.Limits.{max_layers, max_octave}
use Rattle.params.specs.declared.Settings.{Settings}
use Rattle.picture.specs.declared.Size.{Size}
use Rattle.detect_keypoint.specs.Sound.{Sound}
use Rattle.detect_keypoint.specs.declared.RawKeypoint.{RawKeypoint}
use Rattle.orient_window.specs.Window.{cells_read}
use Rattle.orient_peaks.specs.Rules.{max_peaks}
use Rattle.orient_words.specs.Oriented.{oriented_of}
use Rattle.orient_words.specs.declared.OrientedKeypoint.{OrientedKeypoint}
use Rattle.orient.specs.Keypoint.{keypoint_wrong}
use Rattle.orient.specs.Entry.{window_at, oriented_list}

-- all but the angle is the raw keypoint's
pub record Passed (k : RawKeypoint) (o : OrientedKeypoint) : Type 0 where
  pub x : o.x ≡ k.x
  pub y : o.y ≡ k.y
  pub size : o.size ≡ k.size
  pub response : o.response ≡ k.response
  pub octave : o.octave ≡ k.octave

pub record OrientRule : Type 0 where
  -- n, the number of cells read, is rows × columns
  pub read : (s : Size) (k : RawKeypoint) → cells_read (window_at s k) ≡ (window_at s k).rows * (window_at s k).cols
  -- at most 18 oriented keypoints
  pub few : (img : List Float) (s : Size) (k : RawKeypoint) → length (oriented_list img s k) ≤ max_peaks
  -- x, y, size, response and octave pass through unchanged
  pub passed : (img : List Float) (s : Size) (k : RawKeypoint) (i : ℕ) → i < length (oriented_list img s k) → Passed k (get_or (oriented_list img s k) i (oriented_of k nan))
  -- every keypoint that detection can give for a picture of that size passes number 5
  pub accepted : (s : Size) (octave : ℕ) (settings : Settings) (k : RawKeypoint) → settings.layers ≤ max_layers → octave ≤ max_octave → Sound s.width s.height settings octave k → keypoint_wrong s k ≡ false
