use Rattle.bargeclover.proofs.bargeclover_angle.Goals as goal

pub returns : goal.returns
returns c = simp (c.bits_of.ensures, c.angle.ensures, c.of_bits-2.ensures, c.of_bits.ensures)
