use Rattle.bargeclover.proofs.bargeclover_sqrt.Goals as goal

pub returns : goal.returns
returns c = simp (c.bits_of.ensures, c.sqrt.ensures.value, c.of_bits.ensures)
