-- `infinite_to_i32` meets its contract: two comparisons with zero tell which of the three x is. Assumes nothing.
use mathlib.Core.Path.{sym, ap}
use lib.Ieee.{of_bits, to_signed}
use Rattle.ieee.proofs.Infinite.{above_inf, below_inf, neither_nan}
use Rattle.ieee_whole.proofs.infinite_to_i32.Goals as goal

pub returns-then-x : goal.returns-then-x
unfolding of_bits to_signed
returns-then-x c = sym (ap (to_signed 31) (above_inf c.args.x c.requires c.if-x.true))

pub returns-then-x-2 : goal.returns-then-x-2
unfolding of_bits to_signed
returns-then-x-2 c = sym (ap (to_signed 31) (below_inf c.args.x c.requires c.if-x-2.true))

pub returns-else-x-2 : goal.returns-else-x-2
unfolding of_bits to_signed
returns-else-x-2 c = sym (ap (to_signed 31) (neither_nan c.args.x c.requires c.if-x.false c.if-x-2.false))
