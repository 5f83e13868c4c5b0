-- Law: rule D18 for the thinned list. The keypoints of a frame and of its negative are thinned to the same positions. `proofs/Negatives.antt` shows `ThinnedAlike`. Definitions only.
use Rattle.std.specs.Prelude.{ℕ, ◌*◌, ◌≡◌, length, take, Float}
use mathlib.Core.List.{List, map, flat_map}
use Rattle.params.specs.Limits.{keypoint_words}
use Rattle.params.specs.Answers.{count_of}
use Rattle.params.specs.declared.Settings.{Settings}
use Rattle.picture.specs.declared.Shape.{Shape}
use Rattle.detect.specs.Entry.{extrema_answer, extrema_out}
use Rattle.detect.specs.SignLaw.{negative}
use Rattle.thin.specs.Entry.{thin_answer, thin_out}

-- a run of `find_extrema`: what it is handed, and the lent words before
pub record Run : Type 0 where
  pub stack : List Float
  pub shape : Shape
  pub layer : ℕ
  pub octave : ℕ
  pub settings : Settings
  pub lent : List ℕ

-- the run on the stack's negative, all else the same
abbrev pub on_negative : Run → Run
on_negative r = record { stack = negative r.stack; shape = r.shape; layer = r.layer; octave = r.octave; settings = r.settings; lent = r.lent }

-- the keypoints that it counts
abbrev pub found_in : Run → ℕ
found_in r = count_of (extrema_answer r.stack r.shape r.layer r.octave r.settings (length r.lent))

-- the words that its caller hands on: of the lent words afterwards, those of so many keypoints. A refused run hands on none, and one short of room what was lent, as it was
abbrev pub handed_on : Run → List ℕ
handed_on r = take (keypoint_words * found_in r) (extrema_out r.stack r.shape r.layer r.octave r.settings r.lent)

-- a frame's words: those of all its octaves and layers, one run after the other
abbrev pub frame_words : List Run → List ℕ
frame_words rs = flat_map handed_on rs

-- `thin` on the words of a frame w by h and on its negative's, with the same quota, depth and lent positions: the same answer, and the same positions
pub record Thinned (rs : List Run) (w h quota depth : ℕ) (out : List ℕ) : Type 0 where
  pub answer : thin_answer (frame_words (map on_negative rs)) w h quota depth (length out) ≡ thin_answer (frame_words rs) w h quota depth (length out)
  pub positions : thin_out (frame_words (map on_negative rs)) w h quota depth out ≡ thin_out (frame_words rs) w h quota depth out

-- the law: it holds of all runs, accepted or refused, and of all arguments of `thin`
abbrev pub ThinnedAlike : Type 0
ThinnedAlike = (rs : List Run) (w h quota depth : ℕ) (out : List ℕ) → Thinned rs w h quota depth out
