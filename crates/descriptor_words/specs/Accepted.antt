-- Inner: what is known of arguments that passed the checks, no part of what a caller is promised. Definitions only.
use Rattle.std.specs.Prelude.{◌*◌, ◌<◌, ◌≡◌, true, List, length, Float}
use Rattle.ieee.specs.Numbers.{nought, whole_turn}
use Rattle.params.specs.Limits.{scale_low, scale_high}
use Rattle.params.specs.Table.{within, all_good}
use Rattle.picture.specs.declared.Size.{Size}
use Rattle.descriptor_patch.specs.Patch.{cell_of}
use Rattle.descriptor_run.specs.Cells.{reads_of}
use Rattle.descriptor_patch.specs.Place.{Sides}
use Rattle.descriptor_words.specs.Words.{cell_at, turn_at}
use Rattle.picture.specs.declared.Spot.{Spot}

-- the position, the scale and the angle, up to number 5
pub record Aimed (s : Size) (p : Spot) : Type 0 where
  pub sides : Sides s
  pub column : cell_at (cell_of p.x) < s.width
  pub row : cell_at (cell_of p.y) < s.height
  pub sized : within scale_low scale_high p.scale ≡ true
  pub angled : within nought whole_turn p.angle ≡ true

-- and the picture too
pub record Ready (img : List Float) (s : Size) (p : Spot) : Type 0 where
  pub whole : length img ≡ s.height * s.width
  pub aimed : Aimed s p
  pub good : all_good (reads_of img (turn_at s p)) ≡ true
