-- Inner: how a list of angles is handed on: in the first places of an array, with +0 in the others, and how many they are. Definitions only.
use Rattle.std.specs.Prelude.{◌≤◌, ◌≡◌, List, length, take, replicate, Float}
use Rattle.ieee.specs.Numbers.{nought}
use Rattle.lists.specs.Pasted.{pasted}
use Rattle.orient_tally.specs.Sample.{bins}
use Rattle.orient_peaks.specs.declared.Angles.{Angles}

unfoldable pub held_of : List Float → Angles
held_of list = record { all = pasted 0 list (replicate bins nought); count = length list }

-- what a reader of the array gets
pub record Holds (a : Angles) (list : List Float) : Type 0 where
  pub count : a.count ≡ length list
  pub few : length list ≤ bins
  pub first : take (length list) a.all ≡ list
