-- `pack` meets its contract: `unsigned_bits` gives the bits below either sign. Assumes nothing.
use mathlib.Core.Path.{◌∙◌}
use Rattle.packing.proofs.pack.Goals as goal

pub returns : goal.returns
returns c = c.with_sign.ensures ∙ c.unsigned_bits.ensures.value c.args.s
