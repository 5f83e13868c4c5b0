use Rattle.bargeclover.proofs.bargeclover_cos.Goals as goal

pub returns : goal.returns
returns c = simp (c.bits_of.ensures, c.cos.ensures, c.of_bits.ensures)
