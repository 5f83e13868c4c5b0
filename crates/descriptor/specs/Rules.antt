-- Law: what is proved of the descriptor beyond the entry's contract and `Nothing`: proofs/Rules.antt proves each. Definitions only.
use Rattle.std.specs.Prelude.{ℕ, ◌<◌, ◌≡◌, true, false, ◌||◌, List, get_or, Float}
use Rattle.std.specs.Float.{nan}
use Rattle.std.specs.Float.Ieee.Scale.{finite}
use Rattle.ieee.specs.Numbers.{nought, whole_turn}
use Rattle.params.specs.Limits.{value_count, scale_low, scale_high}
use Rattle.params.specs.Table.{within}
use Rattle.picture.specs.declared.Size.{Size}
use Rattle.descriptor_patch.specs.Patch.{cell_of}
use Rattle.descriptor_laws.specs.ValuesRules.{Byte}
use Rattle.descriptor_words.specs.Words.{values_at}
use Rattle.picture.specs.declared.Spot.{Spot}
use Rattle.descriptor.specs.Place.{on_side, spot_wrong, turn_wrong}
use Rattle.descriptor.specs.Entry.{fault_of}

-- the position rounds into the picture
pub record Inside (s : Size) (p : Spot) : Type 0 where
  pub x_ends : finite p.x ≡ true
  pub y_ends : finite p.y ≡ true
  pub column : on_side s.width (cell_of p.x) ≡ true
  pub row : on_side s.height (cell_of p.y) ≡ true

pub record DescriptorRule : Type 0 where
  -- each of the 128 values is a whole number from 0 to 255
  pub whole : (img : List Float) (s : Size) (p : Spot) → fault_of img s p ≡ 0 → (n : ℕ) → n < value_count → Byte (get_or (values_at img s p) n nan)
  -- a position that rounds into the picture, with a scale and an angle in their ranges, passes number 5
  pub accepted : (s : Size) (p : Spot) → Inside s p → within scale_low scale_high p.scale ≡ true → within nought whole_turn p.angle ≡ true → (spot_wrong s p || turn_wrong p) ≡ false
