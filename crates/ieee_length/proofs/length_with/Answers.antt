-- `length_with` meets its contract: the guess that passed, or `length`. Assumes nothing.
use Rattle.std.proofs.Common.{rules}
use Rattle.packing.proofs.Plain.{no_nan32}
use Rattle.ieee_length.proofs.length_with.Goals as goal

pub float_from_bits-result : goal.float_from_bits-result
float_from_bits-result c = search (rules, no_nan32)
