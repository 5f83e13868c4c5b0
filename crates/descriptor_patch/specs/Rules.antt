-- Law: what is proved of a patch and of a cell's sample: proofs/Rules.antt proves each. Definitions only.
use Rattle.std.specs.Prelude.{◌≡◌, ℕ, ◌<◌, true, List, Float}
use Rattle.params.specs.Limits.{scale_low, scale_high}
use Rattle.params.specs.Table.{within, all_good}
use Rattle.hal.specs.Exp.{in_down}
use Rattle.hal_reach.specs.Reach.{in_angle}
use Rattle.picture.specs.Picture.{four_at}
use Rattle.picture.specs.declared.Size.{Size}
use Rattle.descriptor_patch.specs.Patch.{in_grid, grid_at, sample_at, patch_of}
use Rattle.descriptor_patch.specs.Place.{Sides, Lies}
use Rattle.descriptor_patch.specs.declared.Sample.{Sample}
use Rattle.descriptor_patch.specs.declared.Patch.{Patch}

-- the routines are asked inside their ranges, and the sample lies in the grid
pub record Fair (s : Sample) : Type 0 where
  pub row : in_grid s.rbin ≡ true
  pub col : in_grid s.cbin ≡ true
  -- the exponent of the weight lies in −32 to 0, rounding included
  pub fall : in_down s.fall ≡ true
  -- each of the two slopes is at most 2^21 in magnitude
  pub slopes : in_angle s.dx s.dy ≡ true

pub record PatchRule : Type 0 where
  -- a patch about a cell of the picture lies as the code asks
  pub lies : (s : Size) (px py : ℕ) (scale angle : Float) → Sides s → px < s.width → py < s.height → within scale_low scale_high scale ≡ true → Lies (patch_of s px py scale angle)
  -- the sample of a cell in the grid is fair where the four neighbours are good
  pub fair : (img : List Float) (t : Patch) (r c : ℕ) → grid_at t r c ≡ true → all_good (four_at img t.size.width r c) ≡ true → Fair (sample_at img t r c)
