-- `raised_sum` meets its contract. Assumes nothing.
use Rattle.std.proofs.Common.{T, sym, subst, arith}
use lib.Ieee.{binary32, fits}
use Rattle.ieee_length.proofs.Raised.{operands, sum_no_nan, sum_below, raised}
use Rattle.ieee_length.proofs.raised_sum.Goals as goal
use Rattle.ieee_length.proofs.raised_sum.Goals.{Start}

held : (c : Start) → T (fits binary32 c.args.x)
held c = subst T (sym c.well_formed.0.1) tt

pub wide_fma-requires : goal.wide_fma-requires
wide_fma-requires c = operands c.args.x c.args.y (held c) c.requires

pub float_to_bits-result : goal.float_to_bits-result
float_to_bits-result c = let s = c.before in sum_no_nan s.args.x s.args.y (held s) s.requires c.wide_fma.result c.wide_fma.ensures

pub overflow_add-result : goal.overflow_add-result
overflow_add-result c = let s = c.before in omega (arith, sum_below s.args.x s.args.y (held s) s.requires c.wide_fma.result c.wide_fma.ensures)

pub returns : goal.returns
returns c = let s = c.before in raised s.args.x s.args.y (held s) s.requires c.wide_fma.result c.wide_fma.ensures
