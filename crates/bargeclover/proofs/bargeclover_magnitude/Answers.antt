use Rattle.bargeclover.proofs.bargeclover_magnitude.Goals as goal

pub returns : goal.returns
returns c = simp (c.bits_of.ensures, c.magnitude.ensures, c.of_bits-2.ensures, c.of_bits.ensures)
