-- An oriented keypoint handed over in words (rules A18 and A10). Definitions only.
use Rattle.std.specs.Prelude.{ℕ, cond, List, eqb, length, get_or}
use Rattle.std.specs.Float.{nan}
use Rattle.ieee.specs.F32.{f32}
use Rattle.orient_words.specs.Oriented.{oriented_words}
use Rattle.orient_words.specs.declared.OrientedKeypoint.{OrientedKeypoint}

-- the oriented keypoint of six words
unfoldable pub six_in : List ℕ → OrientedKeypoint
six_in o =
    record {
      x = f32 (get_or o 0 0);
      y = f32 (get_or o 1 0);
      size = f32 (get_or o 2 0);
      response = f32 (get_or o 3 0);
      octave = get_or o 4 0;
      angle = f32 (get_or o 5 0);
    }

-- one that no entry takes: its x is not a number
unfoldable pub unoriented : OrientedKeypoint
unoriented = record { x = nan; y = nan; size = nan; response = nan; octave = 0; angle = nan }

-- any other number of words than six stands for one that no entry takes
unfoldable pub oriented_in : List ℕ → OrientedKeypoint
oriented_in o = cond (eqb (length o) oriented_words) (six_in o) unoriented
