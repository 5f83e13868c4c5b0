-- Small laws of tests. Assumes nothing.
use Prim.Native.Nat.{ℕ, ◌≤◌}
use mathlib.Core.Path.{◌≡◌, refl}
use mathlib.Core.Bool.{Bool, true, false, ◌||◌, true≢false}
use native.Mathlib.Omega.{arith}
use borrow.Author.Tests.{eqb-false, ltb-false}
use lib.Dec.{eqb, ltb}

pub or_neither : (a b : Bool) → (a || b) ≡ false → (a ≡ false) × (b ≡ false)
or_neither true b e = absurd (true≢false e)
or_neither false b e = (refl, e)

-- a number that is neither 0 nor above a limit
pub in_range : (n top : ℕ) → (eqb n 0 || ltb top n) ≡ false → (1 ≤ n) × (n ≤ top)
in_range n top e =
    let h = or_neither (eqb n 0) (ltb top n) e in
    let z : n ≡ 0 → ⊥ = eqb-false n 0 h.0 in
    (omega (arith, z), ltb-false top n h.1)
