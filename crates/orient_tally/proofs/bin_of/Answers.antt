use lib.Ieee.{of_bits}
use Rattle.orient_tally.proofs.Values.{binned_in, found_high, found_low}
use Rattle.orient_tally.proofs.bin_of.Goals as goal

pub float_to_bits-b : goal.float_to_bits-b
unfolding of_bits
float_to_bits-b c = rw c.angle_in-turn.ensures (binned_in _ _ c.requires).fine

pub returns-then-b-ge36 : goal.returns-then-b-ge36
unfolding of_bits
returns-then-b-ge36 c = let p = found_high _ _ _ c.angle_in-turn.ensures c.requires c.if-b-ge36.true in record { value = p.0; small = p.1 }

pub returns-else-b-ge36 : goal.returns-else-b-ge36
unfolding of_bits
returns-else-b-ge36 c = let p = found_low _ _ _ c.angle_in-turn.ensures c.requires c.if-b-ge36.false in record { value = p.0; small = p.1 }
