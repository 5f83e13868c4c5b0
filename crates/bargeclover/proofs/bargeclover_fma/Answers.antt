use Rattle.bargeclover.proofs.bargeclover_fma.Goals as goal

pub returns : goal.returns
returns c = simp (c.bits_of.ensures, c.mul_add.ensures.value, c.of_bits-3.ensures, c.of_bits-2.ensures, c.of_bits.ensures)
