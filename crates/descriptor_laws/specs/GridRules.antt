-- Law: what is proved of a spread and of the histogram that samples make: proofs/GridRules.antt proves each. Definitions only.
use Rattle.std.specs.Prelude.{ℕ, ◌<◌, ◌≡◌, true, List, length, get_or, replicate, Float}
use Rattle.std.specs.Float.{nan}
use Rattle.ieee.specs.F32.{◌=ᶠ◌, f32}
use Rattle.ieee.specs.Numbers.{nought}
use Rattle.hal.specs.Exp.{in_down}
use Rattle.hal.specs.Rules.{In}
use Rattle.lists.specs.Each.{Each}
use Rattle.descriptor_patch.specs.declared.Sample.{Sample}
use Rattle.descriptor_values.specs.Places.{places}
use Rattle.descriptor_laws.specs.ValuesRules.{Held}
use Rattle.descriptor_shares.specs.Sharing.{spread_of}
use Rattle.descriptor_grid.specs.Grid.{gathered}
use Rattle.descriptor_shares.specs.Reach.{Lands, Inside}
use Rattle.descriptor_shares.specs.declared.Shares.{Shares}

-- 2 ^ 22
abbrev pub most_share : Float
most_share = f32 0x4a80_0000

-- P of each of eight shares
pub record Eight (P : Float → Type 0) (s : Shares) : Type 0 where
  pub v000 : P s.v000
  pub v001 : P s.v001
  pub v010 : P s.v010
  pub v011 : P s.v011
  pub v100 : P s.v100
  pub v101 : P s.v101
  pub v110 : P s.v110
  pub v111 : P s.v111

-- a sample that can be added, and whose weight is asked inside the range of exp
pub record Counts (angle : Float) (s : Sample) : Type 0 where
  pub lands : Lands angle s
  pub fall : in_down s.fall ≡ true

-- the same, and the picture is level about it: no slope, whichever sign the zeros have
pub record Flat (angle : Float) (s : Sample) : Type 0 where
  pub counts : Counts angle s
  pub dx : (s.dx =ᶠ nought) ≡ true
  pub dy : (s.dy =ᶠ nought) ≡ true

pub record GridRule : Type 0 where
  -- rows and columns 0 to 4, slots 0 to 7: none of the eight places leaves the histogram
  pub inside : (angle : Float) (s : Sample) → Lands angle s → Inside (spread_of angle s)
  -- every share lies in 0 to 2 ^ 22
  pub shares : (angle : Float) (s : Sample) → Counts angle s → Eight (In nought most_share) (spread_of angle s).shares
  -- 360 places
  pub count : (angle : Float) (ss : List Sample) → length (gathered angle ss) ≡ places
  -- each holds 0 to 2 ^ 46, however many samples there are, and no minus zero
  pub held : (angle : Float) (ss : List Sample) → Each (Counts angle) ss → (i : ℕ) → i < places → Held (get_or (gathered angle ss) i nan)
  -- samples of a level picture leave the histogram empty, each place +0
  pub flat : (angle : Float) (ss : List Sample) → Each (Flat angle) ss → gathered angle ss ≡ replicate places nought
