use Rattle.bargeclover.proofs.bargeclover_exp.Goals as goal

pub returns : goal.returns
returns c = simp (c.bits_of.ensures, c.exp.ensures, c.of_bits.ensures)
