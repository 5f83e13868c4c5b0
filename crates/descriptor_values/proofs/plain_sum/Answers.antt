use mathlib.Core.Path.{refl}
use Rattle.descriptor_values.specs.Values.{plain_norm}
use Rattle.descriptor_values.proofs.Listed.{plain_on}
use Rattle.descriptor_values.proofs.plain_sum.Goals as goal

pub loop-x-init : goal.loop-x-init
unfolding plain_norm
loop-x-init c = refl

pub loop-x-preserved : goal.loop-x-preserved
loop-x-preserved c = plain_on c.args.v.now c.loop-x.x-index c.loop-x.s c.loop-x.invariant
