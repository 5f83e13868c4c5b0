-- A source that covers a region counts what the list has, and one of all positions reads no list. Assumes nothing.
use Prim.Native.Nat.{ℕ, ◌≤◌}
use mathlib.Core.Path.{◌≡◌, sym, ◌∙◌}
use mathlib.Core.Bool.{Bool, true, ◌&&◌, true≢false}
use mathlib.Core.List.{List}
use native.Mathlib.Omega.{arith}
use Rattle.lists.proofs.Bools.{and_left, and_true}
use Rattle.counts.specs.Counts.{counted}
use Rattle.counts.proofs.Counts.{absorbed, counted_same, counted_most}
use Rattle.thin_rule.specs.Rule.{points_in, inside, many, quarter}
use Rattle.thin_rule.specs.Strength.{strong, Ordered}
use Rattle.thin_rule.specs.declared.Region.{Region}
use Rattle.thin_laws.proofs.Best.{strong_inside, strong_zero}
use Rattle.thin_laws.proofs.Quarters.{quarter_inside}
use Rattle.thin_source.specs.Sources.{is_all, from_of, to_of, candidate, found, Stands, Covers}
use Rattle.thin_source.specs.declared.Source.{Source}

-- ---- a source that has all positions

candidate_any : (s t : List ℕ) (k : ℕ) (b : Bool) → b ≡ true → candidate b s k ≡ candidate b t k
unfolding candidate
candidate_any s t k b e = rw e

stands_any : (n : ℕ) (s t : List ℕ) (c : Source) → is_all c ≡ true → Stands n s c → Stands n t c
stands_any n s t c e h =
    record {
      order = h.order;
      room = λ f. absurd (true≢false (sym e ∙ f));
      each = λ k a b. rw (candidate_any t s k (is_all c) e) (h.each k a b);
    }

pub covers_any : (ws : List ℕ) (r : Region) (s t : List ℕ) (c : Source) → is_all c ≡ true → Covers ws r s c → Covers ws r t c
covers_any ws r s t c e h =
    record {
      stands = stands_any (points_in ws) s t c e h.stands;
      each = λ g. counted_same (from_of c) (to_of c) (λ k. inside ws r (candidate (is_all c) t k) && g (candidate (is_all c) t k)) (λ k. inside ws r (candidate (is_all c) s k) && g (candidate (is_all c) s k)) (λ k a b. rw (candidate_any t s k (is_all c) e)) ∙ h.each g;
    }

-- ---- what a source has of its region

module _ (ws : List ℕ) (r : Region) (s : List ℕ) (c : Source) (h : Covers ws r s c) where
  -- of a test that only the region's keypoints pass
  pub covers_test : (f : ℕ → Bool) → ((i : ℕ) → f i ≡ true → inside ws r i ≡ true) → found s c f ≡ counted 0 (points_in ws) f
  covers_test f p =
      counted_same (from_of c) (to_of c) (λ k. f (candidate (is_all c) s k)) (λ k. inside ws r (candidate (is_all c) s k) && f (candidate (is_all c) s k)) (λ k a b. sym (absorbed (inside ws r (candidate (is_all c) s k)) (f (candidate (is_all c) s k)) (p (candidate (is_all c) s k))))
      ∙ h.each f
      ∙ counted_same 0 (points_in ws) (λ i. inside ws r i && f i) f (λ i a b. absorbed (inside ws r i) (f i) (p i))

  -- from a strength on
  pub covers_put : (t : ℕ) (g : ℕ → Bool) → found s c (λ p. strong ws r t p && g p) ≡ counted 0 (points_in ws) (λ i. strong ws r t i && g i)
  covers_put t g = covers_test (λ p. strong ws r t p && g p) (λ i e. strong_inside ws r t i (and_left (strong ws r t i) (g i) e))

  pub covers_strong : (t : ℕ) → found s c (strong ws r t) ≡ counted 0 (points_in ws) (strong ws r t)
  covers_strong t = covers_test (strong ws r t) (strong_inside ws r t)

  -- all of it
  pub covers_all : (g : ℕ → Bool) → found s c (λ p. strong ws r 0 p && g p) ≡ counted 0 (points_in ws) (λ i. inside ws r i && g i)
  covers_all g = covers_put 0 g ∙ counted_same 0 (points_in ws) (λ i. strong ws r 0 i && g i) (λ i. inside ws r i && g i) (λ i a b. rw (strong_zero ws r i))

  pub covers_many : found s c (strong ws r 0) ≡ many ws r
  covers_many = covers_strong 0 ∙ counted_same 0 (points_in ws) (strong ws r 0) (inside ws r) (λ i a b. strong_zero ws r i)

  -- at most one for each position
  pub covers_few : found s c (strong ws r 0) ≤ points_in ws
  covers_few =
      let e = covers_many in
      let m = counted_most 0 (points_in ws) (inside ws r) (omega arith) in
      omega arith

pub many_all : (ws : List ℕ) (r : Region) → counted 0 (points_in ws) (λ i. inside ws r i && true) ≡ many ws r
many_all ws r = counted_same 0 (points_in ws) (λ i. inside ws r i && true) (inside ws r) (λ i a b. and_true (inside ws r i))

-- a source of a region is one of each of its quarters
pub covers_quarter : (ws : List ℕ) (r : Region) (k : ℕ) (s : List ℕ) (c : Source) → Ordered r → Covers ws r s c → Covers ws (quarter r k) s c
covers_quarter ws r k s c o h =
    record {
      stands = h.stands;
      each = λ g. covers_test ws r s c h (λ p. inside ws (quarter r k) p && g p) (λ i e. quarter_inside ws r k i (and_left (inside ws (quarter r k) i) (g i) e) o);
    }
