-- `normal_root` meets its contract: the checked guess, or the general path. Assumes nothing.
use Rattle.std.proofs.Common.{rules}
use native.Mathlib.Nat.{le_of_lt}
use Rattle.packing.proofs.Plain.{no_nan32}
use Rattle.ieee_root.proofs.normal_root.Goals as goal

pub float_from_bits-result : goal.float_from_bits-result
float_from_bits-result c = search (rules, no_nan32)

pub float_from_bits-b : goal.float_from_bits-b
float_from_bits-b c = no_nan32 c.args.b (le_of_lt c.requires.1)
