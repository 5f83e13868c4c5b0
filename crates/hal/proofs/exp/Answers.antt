use mathlib.Core.Path.{sym, ◌∙◌}
use lib.Ieee.{neg, of_bits}
use Rattle.hal.specs.Exp.{exp_of}
use Rattle.hal.proofs.exp.Goals as goal

pub exp_in-requires : goal.exp_in-requires
unfolding of_bits neg
exp_in-requires c = sym c.within.ensures ∙ c.if-within.true

pub returns-else-within : goal.returns-else-within
unfolding exp_of of_bits neg
returns-else-within c = simp (c.outside.ensures, sym c.within.ensures ∙ c.if-within.false)
