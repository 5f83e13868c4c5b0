-- `raised_digits` meets its contract: the pattern is of a number from 1 to below 4. Assumes nothing.
use Rattle.std.proofs.Common.{arith}
use Rattle.packing.proofs.Plain.{no_nan64}
use Rattle.ieee_length.proofs.raised_digits.Goals as goal

pub float_from_bits-result : goal.float_from_bits-result
float_from_bits-result c = no_nan64 _ (omega arith)
