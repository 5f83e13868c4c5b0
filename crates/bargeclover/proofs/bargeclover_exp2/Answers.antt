use Rattle.bargeclover.proofs.bargeclover_exp2.Goals as goal

pub returns : goal.returns
returns c = simp (c.bits_of.ensures, c.exp2.ensures, c.of_bits.ensures)
