-- Small laws of whole numbers. Assumes nothing.
use Prim.Native.Nat.{ℕ, zero, suc, ◌+◌, ◌*◌, ◌<◌, ◌≤◌, zero-le, suc-le-suc}
use mathlib.Core.Logic.{◌⊎◌, inl, inr, ⊎_elim}
use native.Mathlib.Nat.{mul-le-mul_right, suc-mul}
use native.Mathlib.Omega.{arith}

pub le_or_lt : (m n : ℕ) → (m ≤ n) ⊎ (n < m)
le_or_lt zero n = inl zero-le
le_or_lt (suc m) zero = inr (suc-le-suc zero-le)
le_or_lt (suc m) (suc n) = ⊎_elim (λ p. inl (suc-le-suc p)) (λ q. inr (suc-le-suc q)) (le_or_lt m n)

-- a place in row q, column c, of m rows of w
pub packed : {q m c w : ℕ} → q < m → c < w → q * w + c < m * w
packed {q} {m} {c} {w} a b = omega (arith, mul-le-mul_right w a, suc-mul q w)
