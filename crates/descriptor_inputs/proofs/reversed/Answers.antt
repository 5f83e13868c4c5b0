use Rattle.descriptor_inputs.specs.Inputs.{reversed_of}
use Rattle.descriptor_inputs.proofs.reversed.Goals as goal

pub returns-then-abs : goal.returns-then-abs
unfolding reversed_of
returns-then-abs c = rw (← c.abs.ensures, c.if-abs.true)

pub returns-else-abs : goal.returns-else-abs
unfolding reversed_of
returns-else-abs c = rw (← c.abs.ensures, c.if-abs.false)
