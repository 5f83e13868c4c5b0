use Rattle.bargeclover.proofs.bargeclover_round.Goals as goal

pub returns : goal.returns
returns c = simp (c.bits_of.ensures, c.round_ties_even.ensures, c.of_bits.ensures)
