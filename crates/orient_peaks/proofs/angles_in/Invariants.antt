use Rattle.std.proofs.Common.{◌≡◌, length, replicate}
use Rattle.ieee.specs.Numbers.{nought}
use Rattle.orient_tally.specs.Sample.{bins}
use Rattle.orient_peaks.specs.Peaks.{least_of, peak_of}
use Rattle.orient_peaks.proofs.Fill.{Filled}
use Rattle.orient_peaks.proofs.angles_in.Given as goal

abbrev pub invariant-loop-j : goal.invariant-loop-j
invariant-loop-j l = record {
  long : length l.initial.all ≡ bins;
  clean : l.initial.all ≡ replicate bins nought;
  least : l.least ≡ least_of l.h;
  filled : Filled (peak_of l.h l.least) l.j l.initial.all l.all l.count;
}
