use native.Mathlib.Nat.{le_trans}
use lib.Dec.{lit≤}
use lib.Pow.{pow_mono}
use Rattle.ieee_laws.proofs.Wholes.{held}
use Rattle.detect_keypoint.proofs.Counts.{one_shift}
use Rattle.descriptor_inputs.specs.Inputs.{shrink_of}
use Rattle.descriptor_inputs.proofs.shrink.Goals as goal

pub int_to_float-result : goal.int_to_float-result
int_to_float-result c = let p = c.requires in rw (one_shift c.args.octave p) (held _ (le_trans (pow_mono p) (lit≤ tt)))

pub returns : goal.returns
unfolding shrink_of
returns c = rw (one_shift c.args.octave c.requires)
