-- Law: what is proved of the list that detection gives, beyond the entry's contract: proofs/Rules.antt proves each. Definitions only.
use Rattle.std.specs.Prelude.{ℕ, ◌-◌, ◌*◌, ◌<◌, ◌≤◌, ◌≡◌, List, length, get_or, Float}
use Rattle.params.specs.Limits.{border, max_moves}
use Rattle.params.specs.declared.Settings.{Settings}
use Rattle.picture.specs.declared.Shape.{Shape}
use Rattle.detect_keypoint.specs.Sound.{Sound}
use Rattle.detect_keypoint.specs.declared.RawKeypoint.{RawKeypoint}
use Rattle.detect.specs.Entry.{fault_of, list_of}

pub record DetectRule : Type 0 where
  -- at most (width − 10) × (height − 10) keypoints, one for each cell that is searched
  pub few : (d : List Float) (t : Shape) (layer octave : ℕ) (s : Settings) → length (list_of d t layer octave s) ≤ (t.width - 2 * border) * (t.height - 2 * border)
  -- of any stack, accepted or not, every keypoint of the list settled after fewer moves than five
  pub moves : (d : List Float) (t : Shape) (layer octave : ℕ) (s : Settings) (past : RawKeypoint) (i : ℕ) → i < length (list_of d t layer octave s)
      → (get_or (list_of d t layer octave s) i past).moves < max_moves
  -- of a stack that the table accepts, every keypoint of the list is sound; what stands past the list's end is never read, so `past` may be anything
  pub sound : (d : List Float) (t : Shape) (layer octave : ℕ) (s : Settings) → fault_of d t layer octave s ≡ 0 → (past : RawKeypoint) (i : ℕ) → i < length (list_of d t layer octave s)
      → Sound t.width t.height s octave (get_or (list_of d t layer octave s) i past)
