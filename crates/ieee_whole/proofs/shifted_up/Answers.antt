use mathlib.Core.Path.{◌≡◌, ap, ◌∙◌}
use Prim.Native.Nat.{ℕ, ◌*◌, ◌^◌, ◌≤◌, min}
use native.Mathlib.Nat.{zero-mul, mul-le-mul}
use native.Mathlib.Omega.{arith}
use lib.Pow.{pow_mono, shl_exact}
use Rattle.ieee_whole.proofs.shifted_up.Goals as goal

many : (m d : ℕ) → (m ≡ 0 → ⊥) → 40 ≤ d → 2 ^ 40 ≤ m * 2 ^ d
many m d n h = mul-le-mul {n₁ = 1} {m₁ = 2 ^ 40} (omega arith) (pow_mono h)

none : (m d : ℕ) → m ≡ 0 → 0 ≡ min (m * 2 ^ d) (2 ^ 31)
none m d e = let z : m * 2 ^ d ≡ 0 = ap (λ (x : ℕ). x * 2 ^ d) e ∙ zero-mul (2 ^ d) in omega arith

pub returns-then-m-eq0 : goal.returns-then-m-eq0
returns-then-m-eq0 c = none c.args.m c.args.d c.if-m-eq0.true

pub returns-else-m-eq0 : goal.returns-else-m-eq0
returns-else-m-eq0 c = omega (arith, many c.args.m c.args.d c.if-m-eq0.false c.if-d-ge40.true)

pub returns-else-d-ge40 : goal.returns-else-d-ge40
returns-else-d-ge40 c = ap (λ (x : ℕ). min x (2 ^ 31)) (shl_exact 24 c.args.d 64 c.requires (omega arith))
