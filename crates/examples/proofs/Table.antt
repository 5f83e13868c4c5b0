-- The whole table of marked examples holds: each row is worked out. Assumes nothing.
use mathlib.Core.Path.{refl}
use lib.Ieee.{of_bits, add, mul, div, of_int}
use Rattle.ieee.specs.Fused.{fma, convert}
use Rattle.ieee.specs.Whole.{floor, round_even}
use Rattle.detect_threshold.specs.Threshold.{threshold_of}
use Rattle.examples.specs.Marked.{marked, Holds}

pub marked_hold : Holds marked
unfolding of_bits add mul div of_int fma convert floor round_even threshold_of
marked_hold = (refl, (refl, (refl, (refl, (refl, (refl, (refl, (refl, (refl, (refl, (refl, tt)))))))))))
