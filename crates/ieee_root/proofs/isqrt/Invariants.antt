use Prim.Native.Nat.{ℕ, ◌+◌, ◌*◌, ◌^◌, ◌≤◌, ◌<◌}
use Rattle.ieee_root.proofs.isqrt.Given as goal

-- r holds the digits of the root above place k
abbrev pub Rooted : ℕ → ℕ → ℕ → Type 0
Rooted n r k = (k ≤ 32) × (r * r ≤ n) × (n < (r + 2 ^ k) * (r + 2 ^ k)) × (r + 2 ^ k ≤ 2 ^ 32)

abbrev pub invariant-loop-k : goal.invariant-loop-k
invariant-loop-k l = Rooted l.n l.r l.k
