use Rattle.detect_threshold.specs.Threshold.{threshold_of}
use Rattle.detect_threshold.proofs.Level.{level_bounds, trunc_is}
use Rattle.detect_threshold.proofs.threshold_of.Goals as goal

pub returns : goal.returns
unfolding threshold_of
returns c =
    let q = c.requires in
    rw (c.narrow.ensures.value, c.trunc.ensures, c.level_of.ensures, trunc_is _ (level_bounds _ q.0 _ q.1 q.2).low)
