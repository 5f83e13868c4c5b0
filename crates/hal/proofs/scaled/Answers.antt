use Prim.Native.Nat.{◌+◌, ◌*◌}
use native.Mathlib.Omega.{arith}
use Rattle.hal.proofs.Fields.{finite_field, scaled_pattern}
use Rattle.hal.proofs.scaled.Goals as goal

pub float_from_bits-result : goal.float_from_bits-result
float_from_bits-result c = finite_field (c.args.m + (c.args.s + 22) * 8388608) (omega arith)

pub returns : goal.returns
returns c = scaled_pattern c.args.m c.args.s c.requires.0 c.requires.1 c.requires.2 c.requires.3
