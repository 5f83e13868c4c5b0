-- Law: what is proved of the peaks: proofs/Rules.antt proves each. Definitions only.
use Rattle.std.specs.Prelude.{ℕ, ◌≤◌, List, length, Float}
use Rattle.orient_peaks.specs.Peaks.{angles_of}
use Rattle.orient_peaks.specs.Found.{held_of, Holds}

-- the most peaks: no two neighbours are both above each other
abbrev pub max_peaks : ℕ
max_peaks = 18

pub record PeakRule : Type 0 where
  pub few : (b : List Float) → length (angles_of b) ≤ max_peaks
  -- so that all of them have a place
  pub held : (b : List Float) → Holds (held_of (angles_of b)) (angles_of b)
