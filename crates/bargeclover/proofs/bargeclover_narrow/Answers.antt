use Rattle.bargeclover.proofs.bargeclover_narrow.Goals as goal

pub returns : goal.returns
returns c = simp (c.bits_of.ensures, c.narrow.ensures.value, c.of_bits64.ensures)
