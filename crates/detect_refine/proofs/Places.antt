-- A moved place lies in its range. Assumes nothing.
use Rattle.std.specs.Prelude.{Option, Some, None}
use Prim.Native.Nat.{ℕ, ◌<◌, ◌≤◌}
use mathlib.Core.Path.{◌≡◌, refl}
use mathlib.Core.Bool.{Bool, true, false, ◌&&◌, cond}
use native.Mathlib.Omega.{arith}
use borrow.Author.Tests.{leb-true, ltb-true}
use lib.Dec.{leb, ltb}
use lib.IntN.{ℤ, pos, negsuc}
use Rattle.detect_refine.specs.Moves.{placed}

pub placed_in : (lo hi : ℕ) (z : ℤ) (u : ℕ) → placed lo hi z ≡ Some u → (lo ≤ u) × (u < hi)
unfolding placed
placed_in lo hi (pos v) u e = go (leb lo v) (ltb v hi) refl refl e
  where
    go : (a b : Bool) → leb lo v ≡ a → ltb v hi ≡ b → cond (a && b) (Some v) None ≡ Some u → (lo ≤ u) × (u < hi)
    go true true p q k =
        let s : v ≡ u = cc in
        let l = leb-true lo v p in
        let r = ltb-true v hi q in
        omega arith
    go true false p q k = let s : ◌≡◌ {A = ℕ} 0 1 = cc in absurd (omega arith)
    go false b p q k = let s : ◌≡◌ {A = ℕ} 0 1 = cc in absurd (omega arith)
placed_in lo hi (negsuc v) u e = let s : ◌≡◌ {A = ℕ} 0 1 = cc in absurd (omega arith)
