-- `clamped_i32` meets its contract: from 2 ^ 31 on only the sign counts. Assumes nothing.
use mathlib.Core.Path.{◌≡◌, ap}
use Prim.Native.Nat.{ℕ, ◌-◌, ◌^◌, ◌≤◌, min}
use native.Mathlib.Omega.{arith}
use lib.IntN.{pos, negsuc, neg_ℤ}
use Rattle.ieee_whole.proofs.Wholes.{saturate_minus, saturate_plus}
use Rattle.ieee_whole.proofs.clamped_i32.Goals as goal

least : (k : ℕ) → 2 ^ 31 ≤ k → 2 ^ 31 ≡ min k (2 ^ 31)
least k h = omega arith

most : (k : ℕ) → 2 ^ 31 ≤ k → 2 ^ 31 - 1 ≡ min k (2 ^ 31 - 1)
most k h = omega arith

pub returns-then-s : goal.returns-then-s
returns-then-s c = saturate_minus c.args.s c.args.k (negsuc 2147483647) c.if-s.true (ap (λ (x : ℕ). neg_ℤ (pos x)) (least c.args.k c.if-k-ge2147483648.true))

pub returns-else-s : goal.returns-else-s
returns-else-s c = saturate_plus c.args.s c.args.k (pos 2147483647) c.if-s.false (ap (λ (x : ℕ). pos x) (most c.args.k c.if-k-ge2147483648.true))
