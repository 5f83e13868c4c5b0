use Rattle.descriptor_values.specs.Values.{values_of}
use Rattle.descriptor_values.proofs.values.Goals as goal

pub returns : goal.returns
unfolding values_of
returns c = rw (c.finish.ensures, c.clamp_all.ensures, c.raw-v.ensures)
