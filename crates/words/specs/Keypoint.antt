-- A keypoint handed over in words (rules A18 and A9). Definitions only.
use Rattle.std.specs.Prelude.{ℕ, cond, List, eqb, length, get_or}
use Rattle.std.specs.Float.{nan}
use Rattle.ieee.specs.F32.{f32}
use Rattle.params.specs.Limits.{keypoint_words}
use Rattle.detect_keypoint.specs.declared.RawKeypoint.{RawKeypoint}

-- the keypoint of ten words
unfoldable pub words_in : List ℕ → RawKeypoint
words_in k =
    record {
      x = f32 (get_or k 0 0);
      y = f32 (get_or k 1 0);
      size = f32 (get_or k 2 0);
      response = f32 (get_or k 3 0);
      octave = get_or k 4 0;
      layer = get_or k 5 0;
      xi = f32 (get_or k 6 0);
      cc = get_or k 7 0;
      rr = get_or k 8 0;
      moves = get_or k 9 0;
    }

-- a keypoint that no entry takes: its x is not a number
unfoldable pub broken : RawKeypoint
broken = record { x = nan; y = nan; size = nan; response = nan; octave = 0; layer = 0; xi = nan; cc = 0; rr = 0; moves = 0 }

-- any other number of words than ten is no keypoint, and stands for one that no entry takes
unfoldable pub keypoint_in : List ℕ → RawKeypoint
keypoint_in k = cond (eqb (length k) keypoint_words) (words_in k) broken
