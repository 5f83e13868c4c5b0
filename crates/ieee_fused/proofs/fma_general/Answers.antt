use Rattle.std.proofs.Common.{rules}
use Rattle.ieee.proofs.Product.{fma_left, fma_right, fma_last}
use Rattle.ieee_fused.proofs.fma_general.Goals as goal

pub returns-then-not-is_finite : goal.returns-then-not-is_finite
returns-then-not-is_finite c = search (rules, fma_left, fma_right)

pub returns-then-not-is_finite-3 : goal.returns-then-not-is_finite-3
returns-then-not-is_finite-3 c = search (rules, fma_last)
