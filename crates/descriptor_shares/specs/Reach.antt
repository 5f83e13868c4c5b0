-- Inner: what the code asks of a sample and of a number, what a split is, and what is said of a spread. No part of what a caller is promised. Definitions only.
use Rattle.std.specs.Prelude.{ℕ, ◌≤◌, ◌≡◌, true, Float}
use Rattle.ieee.specs.F32.{◌⊕◌, ◌⊖◌, ◌≤ᶠ◌, f32, float_z, bits_of}
use Rattle.hal_turn.specs.Turn.{in_turn}
use Rattle.hal_reach.specs.Reach.{in_angle}
use Rattle.hal.specs.Exp.{in_down}
use Rattle.descriptor_patch.specs.Patch.{in_grid}
use Rattle.descriptor_patch.specs.declared.Sample.{Sample}
use Rattle.descriptor_shares.specs.Sharing.{floor_i}
use Rattle.descriptor_shares.specs.declared.Spread.{Spread}
use Rattle.descriptor_shares.specs.declared.Split.{Split}
use Rattle.descriptor_shares.specs.declared.Landed.{Landed}

-- v lies in -8 to 8
pub record Near (v : Float) : Type 0 where
  pub low : (f32 0xc100_0000 ≤ᶠ v) ≡ true
  pub high : (v ≤ᶠ f32 0x4100_0000) ≡ true

-- a sample that can be added in a patch that is turned by `angle`: it lies in the grid, and the angle and the magnitude are asked inside their ranges
pub record Lands (angle : Float) (s : Sample) : Type 0 where
  pub row : in_grid s.rbin ≡ true
  pub col : in_grid s.cbin ≡ true
  pub turn : in_turn angle ≡ true
  pub slopes : in_angle s.dx s.dy ≡ true

-- 1.5 × 2 ^ 23: a float from 2 ^ 23 to 2 ^ 24 is a whole number, and its last bits are the number's own
abbrev pub base : Float
base = f32 0x4b40_0000

-- v by the whole number at or below it: the bits of that one lifted by 12582912, and how far v lies past it
unfoldable pub split_of : Float → Split
split_of v = record { bits = bits_of (float_z (floor_i v) ⊕ base); past = v ⊖ float_z (floor_i v) }

-- a sample that can be added and whose weight is asked inside the range of exp, split as it lies in the grid
pub record Settled (angle : Float) (l : Landed) : Type 0 where
  pub lands : Lands angle l.sample
  pub fall : in_down l.sample.fall ≡ true
  pub row : l.row ≡ split_of l.sample.rbin
  pub col : l.col ≡ split_of l.sample.cbin

-- none of a spread's eight places leaves the histogram
pub record Inside (p : Spread) : Type 0 where
  pub row : p.row ≤ 4
  pub col : p.col ≤ 4
  pub slot : p.slot ≤ 7
