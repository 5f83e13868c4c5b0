use native.Mathlib.Nat.{le_trans}
use lib.Dec.{lit≤}
use lib.Pow.{pow_mono}
use Rattle.detect_keypoint.proofs.Counts.{held, one_shift}
use Rattle.orient.specs.Keypoint.{octave_in, scale_of}
use Rattle.orient.proofs.scale_of.Goals as goal

pub int_to_float-result : goal.int_to_float-result
int_to_float-result c =
    let p = c.requires in
    rw (one_shift (octave_in c.args.k.octave) p) (held _ (le_trans (pow_mono p) (lit≤ tt)))

pub returns : goal.returns
unfolding scale_of
returns c = rw (one_shift (octave_in c.args.k.octave) c.requires)
