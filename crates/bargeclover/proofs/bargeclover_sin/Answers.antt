use Rattle.bargeclover.proofs.bargeclover_sin.Goals as goal

pub returns : goal.returns
returns c = simp (c.bits_of.ensures, c.sin.ensures, c.of_bits.ensures)
