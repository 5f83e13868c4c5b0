use mathlib.Core.Path.{sym, subst}
use mathlib.Core.Bool.{not}
use Prim.Native.Nat.{ℕ, ◌%◌, ◌≤◌}
use native.Mathlib.Omega.{arith}
use lib.Dec.{T}
use lib.Ieee.{binary32, fits, nan_bits}
use Rattle.ieee.proofs.Patterns.{of_number, number_low, clear_is}
use Rattle.hal_angle.proofs.size.Goals as goal
use Rattle.hal_angle.proofs.size.Goals.{Start}

held : (c : Start) → T (fits binary32 c.args.x)
held c = subst T (sym c.well_formed.0.1) tt

-- cleared once more, the sign's bit is clear
number : (b : ℕ) → b % 2147483648 ≤ 2139095040 → T (not (nan_bits binary32 (b % 2147483648)))
number b h = of_number binary32 (b % 2147483648) (omega arith)

pub float_from_bits-result : goal.float_from_bits-result
float_from_bits-result c = number _ (number_low binary32 c.args.x (held c) c.requires)

pub returns : goal.returns
returns c = clear_is binary32 c.args.x (held c) c.requires
