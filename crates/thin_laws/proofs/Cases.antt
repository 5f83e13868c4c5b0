-- The cases of what a region keeps: all, the best, or what its quarters keep. Assumes nothing.
use Prim.Native.Nat.{ℕ, zero, suc, ◌≤◌, ◌<◌}
use mathlib.Core.Path.{◌≡◌}
use mathlib.Core.Bool.{true, ◌&&◌}
use mathlib.Core.List.{List}
use mathlib.Core.Logic.{◌⊎◌, inl, inr}
use native.Mathlib.Omega.{arith}
use borrow.Author.Tests.{lt-ltb, le-ltb, le-leb, lt-leb}
use Rattle.lists.proofs.Bools.{and_true, and_left}
use Rattle.counts.specs.Counts.{some}
use Rattle.counts.proofs.Counts.{absorbed, some_elim}
use Rattle.thin_rule.specs.Rule.{inside, many, quarter, share, best, keeps}
use Rattle.thin_rule.specs.Strength.{Ordered}
use Rattle.thin_rule.specs.declared.Region.{Region}
use Rattle.thin_laws.proofs.Quarters.{quarter_inside}

pub keeps_inside : (ws : List ℕ) (d : ℕ) (r : Region) (q i : ℕ) → keeps ws d r q i ≡ true → inside ws r i ≡ true
unfolding keeps
keeps_inside ws zero r q i h = and_left (inside ws r i) _ h
keeps_inside ws (suc d) r q i h = and_left (inside ws r i) _ h

pub keeps_all : (ws : List ℕ) (d : ℕ) (r : Region) (q i : ℕ) → many ws r ≤ q → keeps ws d r q i ≡ inside ws r i
unfolding keeps
keeps_all ws zero r q i h = rw (le-leb (many ws r) q h) (and_true (inside ws r i))
keeps_all ws (suc d) r q i h = rw (le-leb (many ws r) q h) (and_true (inside ws r i))

pub keeps_best : (ws : List ℕ) (d : ℕ) (r : Region) (q i : ℕ) → q < many ws r → (q < 4) ⊎ (d ≡ 0) → keeps ws d r q i ≡ (inside ws r i && best ws r q i)
unfolding keeps
keeps_best ws zero r q i h l = rw (lt-leb (many ws r) q h)
keeps_best ws (suc d) r q i h (inl l) = rw (lt-leb (many ws r) q h, lt-ltb q 4 l)
keeps_best ws (suc d) r q i h (inr z) = absurd (omega arith)

pub keeps_quarters : (ws : List ℕ) (d : ℕ) (r : Region) (q i : ℕ) → Ordered r → q < many ws r → 4 ≤ q → keeps ws (suc d) r q i ≡ some 4 (λ k. keeps ws d (quarter r k) (share q k) i)
unfolding keeps
keeps_quarters ws d r q i o h l =
    rw (lt-leb (many ws r) q h, le-ltb q 4 l)
    (absorbed (inside ws r i) (some 4 (λ k. keeps ws d (quarter r k) (share q k) i))
    (some_elim (λ k. keeps ws d (quarter r k) (share q k) i) 4 (λ k m x. quarter_inside ws r k i (keeps_inside ws d (quarter r k) (share q k) i x) o)))
