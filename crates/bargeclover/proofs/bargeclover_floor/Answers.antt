use Rattle.bargeclover.proofs.bargeclover_floor.Goals as goal

pub returns : goal.returns
returns c = simp (c.bits_of.ensures, c.floor.ensures, c.of_bits.ensures)
