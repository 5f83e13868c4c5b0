use Rattle.descriptor_inputs.specs.Inputs.{oriented_wrong}
use Rattle.descriptor_inputs.proofs.Checks.{eq_self}
use Rattle.descriptor_inputs.proofs.oriented_wrong.Goals as goal

pub returns : goal.returns
unfolding oriented_wrong
returns c = rw (eq_self _, c.is_finite-3.ensures, c.is_finite-2.ensures, c.is_finite.ensures)
