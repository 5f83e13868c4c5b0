-- The turns of the halving: between two strengths of which one leaves the quota or more, and the next to the other fewer. Assumes nothing.
use Prim.Native.Nat.{ℕ, ◌+◌, ◌-◌, ◌≤◌, ◌<◌}
use mathlib.Core.Path.{◌≡◌, sym, ◌∙◌, subst}
use mathlib.Core.Bool.{Bool, true, false, true≢false, false≢true}
use mathlib.Core.List.{List}
use mathlib.Core.Logic.{⊎_elim}
use native.Mathlib.Nat.{sub-add_cancel}
use native.Mathlib.Omega.{arith}
use Rattle.lists.proofs.Naturals.{le_or_lt}
use Rattle.counts.specs.Counts.{counted}
use Rattle.counts.proofs.Counts.{either, counted_same, counted_never}
use Rattle.thin_rule.specs.Rule.{points_in, inside, many}
use Rattle.thin_rule.specs.Strength.{strong, Sound}
use Rattle.thin_rule.specs.declared.Region.{Region}
use Rattle.thin_laws.proofs.Best.{strong_inside, strong_at, strong_both, strong_fewer, step_down}
use Rattle.thin_source.specs.Sources.{found, Covers, Reaches}
use Rattle.thin_source.specs.declared.Source.{Source}
use Rattle.thin_source.specs.declared.Reach.{Reach}
use Rattle.thin_source.proofs.Covering.{covers_strong}

abbrev from : List ℕ → Region → ℕ → ℕ
from ws r t = counted 0 (points_in ws) (strong ws r t)

pub record Halving (ws : List ℕ) (r : Region) (q lo hi : ℕ) : Type 0 where
  pub enough : q ≤ from ws r lo
  pub few : from ws r (hi + 1) < q

pub halving_start : (ws : List ℕ) (r : Region) (q : ℕ) (h : Reach) → Reaches ws h → 1 ≤ q → q < many ws r → Halving ws r q h.low h.high
halving_start ws r q h g p l =
    record {
      enough =
          let e = counted_same 0 (points_in ws) (strong ws r h.low) (inside ws r) (λ i a b. same i b) in omega arith;
      few =
          let e = counted_never 0 (points_in ws) (strong ws r (h.high + 1)) (λ i a b. ⊎_elim (λ t. absurd (let x = strong_at ws r (h.high + 1) i t in let y = g.high i b in omega arith)) (λ t. t) (either (strong ws r (h.high + 1) i))) in omega arith;
    }
  where
    same : (i : ℕ) → i < points_in ws → strong ws r h.low i ≡ inside ws r i
    same i b =
        ⊎_elim
        (λ t. strong_both ws r h.low i t (g.low i b) ∙ sym t)
        (λ t. ⊎_elim (λ u. absurd (no t (strong_inside ws r h.low i u))) (λ u. u ∙ sym t) (either (strong ws r h.low i)))
        (either (inside ws r i))
      where
        no : {x : Bool} → x ≡ false → x ≡ true → ⊥
        no {x = true} a b = true≢false a
        no {x = false} a b = false≢true b

-- the cut is found
pub halving_found : (ws : List ℕ) (r : Region) (s : List ℕ) (c : Source) (q mid m : ℕ) → Covers ws r s c → m ≡ found s c (strong ws r mid) → m ≡ q → from ws r mid ≡ q
halving_found ws r s c q mid m h e z = sym (covers_strong ws r s c h mid) ∙ sym e ∙ z

pub halving_up : (ws : List ℕ) (r : Region) (s : List ℕ) (c : Source) (q lo hi mid m : ℕ) → Covers ws r s c → m ≡ found s c (strong ws r mid) → q < m → Halving ws r q lo hi → Halving ws r q mid hi
halving_up ws r s c q lo hi mid m h e l g = record { enough = let z = covers_strong ws r s c h mid in omega arith; few = g.few }

pub halving_down : (ws : List ℕ) (r : Region) (s : List ℕ) (c : Source) (q lo hi mid m : ℕ) → Covers ws r s c → m ≡ found s c (strong ws r mid) → m < q → 1 ≤ mid → Halving ws r q lo hi → Halving ws r q lo (mid - 1)
halving_down ws r s c q lo hi mid m h e l p g = record { enough = g.enough; few = rw (sub-add_cancel p) (let z = covers_strong ws r s c h mid in omega arith) }

pub halving_end : (ws : List ℕ) (r : Region) (q lo hi : ℕ) → Sound ws → hi ≤ lo → Halving ws r q lo hi → from ws r lo ≡ q
halving_end ws r q lo hi s l g =
    ⊎_elim
    (λ k. absurd (let f = strong_fewer ws r 0 (points_in ws) (hi + 1) lo k in let a = g.enough in let b = g.few in omega arith))
    (λ k. let e : lo ≡ hi = omega arith in let d = step_down ws r s lo in let a = g.enough in let b = subst (λ (j : ℕ). from ws r (j + 1) < q) (sym e) g.few in omega arith)
    (le_or_lt (hi + 1) lo)
