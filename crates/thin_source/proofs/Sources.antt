-- Laws of a source: its candidates and how they are counted, and the reach of a list. Assumes nothing.
use Prim.Native.Nat.{ℕ, ◌+◌, ◌-◌, ◌≤◌, ◌<◌}
use mathlib.Core.Path.{◌≡◌, sym, ap, ◌∙◌}
use mathlib.Core.Bool.{Bool, cond, ◌&&◌}
use mathlib.Core.List.{List}
use native.Mathlib.Nat.{le_refl}
use native.Mathlib.Omega.{arith}
use lib.Dec.{leb}
use Rattle.counts.specs.Counts.{counted}
use Rattle.counts.proofs.Counts.{one, counted_none, counted_next, counted_same, counted_most}
use Rattle.thin_rule.specs.Rule.{points_in}
use Rattle.thin_rule.specs.Strength.{strength, strong, edges_of, edged, Ordered, Sound}
use Rattle.thin_rule.specs.declared.Region.{Region}
use Rattle.thin_rule.specs.declared.Edges.{Edges}
use Rattle.thin_laws.proofs.Edged.{inside_edged}
use Rattle.thin_source.specs.Sources.{is_all, from_of, to_of, candidate, found, Stands}
use Rattle.thin_source.specs.declared.Source.{Source}

-- ---- a keypoint that is strong, by its region's edges

abbrev pub weighed : List ℕ → Edges → ℕ → ℕ → Bool
weighed ws e t p = edged ws e p && leb t (strength ws p)

pub strong_weighed : (ws : List ℕ) (r : Region) (e : Edges) (t p : ℕ) → Sound ws → Ordered r → p < points_in ws → e ≡ edges_of r → strong ws r t p ≡ weighed ws e t p
unfolding strong
strong_weighed ws r e t p s o l h = rw (inside_edged ws r p s o l, h)

-- ---- counting the candidates of a source that pass a test

pub record Tallied (test : ℕ → Bool) (cand : ℕ → ℕ) (from to k m : ℕ) : Type 0 where
  pub low : from ≤ k
  pub high : k ≤ to
  pub count : m ≡ counted from k (λ j. test (cand j))

pub tally_start : (test : ℕ → Bool) (cand : ℕ → ℕ) (from to : ℕ) → from ≤ to → Tallied test cand from to from 0
tally_start test cand from to h =
    record { low = le_refl from; high = h; count = sym (counted_none from from (λ j. test (cand j)) (le_refl from)) }

pub tally_turn : (test : ℕ → Bool) (cand : ℕ → ℕ) (from to k m p o : ℕ) (y : Bool) → Tallied test cand from to k m → k < to → p ≡ cand k → y ≡ test p → o ≡ cond y 1 0 → Tallied test cand from to (k + 1) (m + o)
tally_turn test cand from to k m p o y i h z w u =
    let l = i.low in
    let c = i.count in
    let n = counted_next from k (λ j. test (cand j)) l in
    let v : o ≡ one (test (cand k)) = u ∙ ap one (w ∙ ap test z) in
    record { low = omega arith; high = omega arith; count = omega arith }

pub tally_small : (test : ℕ → Bool) (cand : ℕ → ℕ) (from to k m : ℕ) → Tallied test cand from to k m → m ≤ k - from
tally_small test cand from to k m i =
    let c = i.count in
    let n = counted_most from k (λ j. test (cand j)) i.low in
    omega arith

pub tally_end : (test : ℕ → Bool) (cand : ℕ → ℕ) (from to k m : ℕ) (f : ℕ → Bool) → Tallied test cand from to k m → to ≤ k → ((j : ℕ) → from ≤ j → j < to → f (cand j) ≡ test (cand j)) → m ≡ counted from to (λ j. f (cand j))
tally_end test cand from to k m f i h e =
    let x = i.high in
    let w : to ≡ k = omega arith in
    rw w (i.count ∙ sym (counted_same from k (λ j. f (cand j)) (λ j. test (cand j)) (λ j a b. e j a (omega arith))))

-- ---- the reach of the keypoints below k

pub record Reaching (ws : List ℕ) (k x y : ℕ) : Type 0 where
  pub low : (i : ℕ) → i < k → x ≤ strength ws i
  pub high : (i : ℕ) → i < k → strength ws i ≤ y

-- ---- the candidates that are strong, found by the edges

module _ (ws : List ℕ) (r : Region) (e : Edges) (t : ℕ) (s : List ℕ) (c : Source) (sd : Sound ws) (o : Ordered r) (h : Stands (points_in ws) s c) (z : e ≡ edges_of r) where
  pub each_weighed : (j : ℕ) → from_of c ≤ j → j < to_of c → strong ws r t (candidate (is_all c) s j) ≡ weighed ws e t (candidate (is_all c) s j)
  each_weighed j a b = strong_weighed ws r e t (candidate (is_all c) s j) sd o (h.each j a b) z

  pub tally_strong : (k m : ℕ) → Tallied (weighed ws e t) (candidate (is_all c) s) (from_of c) (to_of c) k m → to_of c ≤ k → m ≡ found s c (strong ws r t)
  tally_strong k m i l = tally_end (weighed ws e t) (candidate (is_all c) s) (from_of c) (to_of c) k m (strong ws r t) i l each_weighed
