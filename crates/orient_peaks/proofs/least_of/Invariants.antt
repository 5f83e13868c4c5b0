use Rattle.std.proofs.Common.{◌≡◌}
use Rattle.orient_peaks.specs.Peaks.{largest_to}
use Rattle.orient_peaks.proofs.least_of.Given as goal

abbrev pub invariant-loop-v : goal.invariant-loop-v
invariant-loop-v l = l.top ≡ largest_to l.h l.v-index
