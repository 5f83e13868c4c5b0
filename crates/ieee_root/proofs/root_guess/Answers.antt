use native.Mathlib.Omega.{arith}
use Rattle.packing.proofs.Plain.{no_nan64}
use Rattle.ieee_root.proofs.root_guess.Goals as goal

pub float_from_bits-y : goal.float_from_bits-y
float_from_bits-y c = no_nan64 _ (omega arith)

pub float_from_bits-d : goal.float_from_bits-d
float_from_bits-d c = no_nan64 _ (omega arith)
