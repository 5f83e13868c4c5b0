use Rattle.std.proofs.Common.{rules}
use Rattle.ieee.specs.Numbers.{nought}
use Rattle.orient_tally.specs.Sample.{bins}
use Rattle.orient_peaks.specs.Peaks.{smooth_at, smoothed}
use Rattle.orient_peaks.proofs.Made.{made_all}
use Rattle.orient_peaks.proofs.smooth.Goals as goal

pub returns : goal.returns
unfolding smoothed
returns c = made_all _ _ (smooth_at c.args.b.now) (λ i y q k. search rules) _ bins nought c.from_fn.ensures.items
