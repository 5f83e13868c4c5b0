use Rattle.descriptor_values.proofs.Listed.{scale_is}
use Rattle.descriptor_values.proofs.scale.Goals as goal

pub returns : goal.returns
returns c =
    scale_is c.args.v.now _ _ _ c.plain_sum.ensures c.sqrt.ensures.value c.max.ensures
