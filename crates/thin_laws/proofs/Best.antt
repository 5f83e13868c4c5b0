-- The best of a region are those from some strength on: the cut at which they are as many as the quota. Assumes nothing.
use Prim.Native.Nat.{ℕ, zero, suc, ◌+◌, ◌^◌, ◌≤◌, ◌<◌}
use mathlib.Core.Path.{◌≡◌, refl, sym, ap, ◌∙◌}
use mathlib.Core.Bool.{Bool, true, false, ◌&&◌, false≢true}
use mathlib.Core.List.{List}
use mathlib.Core.Logic.{◌⊎◌, inl, inr, ⊎_elim}
use native.Mathlib.Numerals.{add-one}
use native.Mathlib.Omega.{arith}
use borrow.Author.Tests.{ltb-true, lt-ltb, le-ltb, leb-true, le-leb, eqb-true, eq-eqb}
use lib.Dec.{leb, ltb, eqb}
use Rattle.lists.proofs.Bools.{and_left, and_right, both_and, both_ways}
use Rattle.lists.proofs.Naturals.{le_or_lt}
use Rattle.counts.specs.Counts.{counted}
use Rattle.counts.proofs.Counts.{either, one, counted_or, counted_mono, counted_single, counted_strict, counted_same, counted_never}
use Rattle.thin_rule.specs.Rule.{points_in, inside, many, before, best}
use Rattle.thin_rule.specs.Strength.{strength, strong, Sound}
use Rattle.thin_rule.specs.declared.Region.{Region}
use Rattle.thin_laws.proofs.Strengths.{strength_lt, before_strength, strength_apart}

module _ (ws : List ℕ) (r : Region) where
  pub strong_inside : (t i : ℕ) → strong ws r t i ≡ true → inside ws r i ≡ true
  unfolding strong
  strong_inside t i h = and_left (inside ws r i) (leb t (strength ws i)) h

  pub strong_at : (t i : ℕ) → strong ws r t i ≡ true → t ≤ strength ws i
  unfolding strong
  strong_at t i h = leb-true t (strength ws i) (and_right (inside ws r i) (leb t (strength ws i)) h)

  pub strong_both : (t i : ℕ) → inside ws r i ≡ true → t ≤ strength ws i → strong ws r t i ≡ true
  unfolding strong
  strong_both t i h l = both_and (inside ws r i) (leb t (strength ws i)) h (le-leb t (strength ws i) l)

  -- every keypoint is as strong as nothing
  pub strong_zero : (i : ℕ) → strong ws r 0 i ≡ inside ws r i
  strong_zero i = both_ways (strong ws r 0 i) (inside ws r i) (strong_inside 0 i) (λ h. strong_both 0 i h (omega arith))

  -- a higher strength is reached by no more
  pub strong_fewer : (lo hi t u : ℕ) → t ≤ u → counted lo hi (strong ws r u) ≤ counted lo hi (strong ws r t)
  strong_fewer lo hi t u h = counted_mono lo hi (strong ws r u) (strong ws r t) (λ i a b e. strong_both t i (strong_inside u i e) (let z = strong_at u i e in omega arith))

pub one_or : (x y z : Bool) → (x ≡ true → (y ≡ true) ⊎ (z ≡ true)) → one x ≤ one y + one z
one_or true true z q = omega arith
one_or true false true q = omega arith
one_or true false false q = ⊎_elim (λ w. absurd (false≢true w)) (λ w. absurd (false≢true w)) (q refl)
one_or false y z q = omega arith

module _ (ws : List ℕ) (r : Region) (s : Sound ws) where
  -- one strength further, one keypoint less at the most
  pub step_down : (t : ℕ) → counted 0 (points_in ws) (strong ws r t) ≤ counted 0 (points_in ws) (strong ws r (t + 1)) + 1
  step_down t =
      let a = counted_or 0 (points_in ws) (strong ws r t) (strong ws r (t + 1)) (λ i. eqb (strength ws i) t)
      (λ i u v. one_or (strong ws r t i) (strong ws r (t + 1) i) (eqb (strength ws i) t)
      (λ h. ⊎_elim (λ l. inr (eq-eqb (strength ws i) t (let z = strong_at ws r t i h in omega arith))) (λ l. inl (strong_both ws r (t + 1) i (strong_inside ws r t i h) (omega arith))) (le_or_lt (strength ws i) t))) in
      let b = counted_single 0 (points_in ws) (λ i. eqb (strength ws i) t)
      (λ i j u v x y e f. strength_apart ws s i j v y (eqb-true (strength ws i) t e ∙ sym (eqb-true (strength ws j) t f))) in
      omega arith

  -- nothing is so strong
  pub none_above : counted 0 (points_in ws) (strong ws r (2 ^ 64)) ≡ 0
  none_above =
      counted_never 0 (points_in ws) (strong ws r (2 ^ 64))
      (λ i a b. ⊎_elim (λ e. absurd (let x = strong_at ws r (2 ^ 64) i e in let y = strength_lt ws s i b in omega arith)) (λ e. e) (either (strong ws r (2 ^ 64) i)))

  -- where a cut leaves q keypoints, they are the best
  pub best_cut : (q t : ℕ) → counted 0 (points_in ws) (strong ws r t) ≡ q → (i : ℕ) → i < points_in ws → (inside ws r i && best ws r q i) ≡ strong ws r t i
  unfolding best
  best_cut q t e i l = both_ways (inside ws r i && ltb (counted 0 (points_in ws) (λ j. inside ws r j && before ws j i)) q) (strong ws r t i) there back
    where
      there : (inside ws r i && ltb (counted 0 (points_in ws) (λ j. inside ws r j && before ws j i)) q) ≡ true → strong ws r t i ≡ true
      there h =
          let c = ltb-true (counted 0 (points_in ws) (λ j. inside ws r j && before ws j i)) q (and_right (inside ws r i) (ltb (counted 0 (points_in ws) (λ j. inside ws r j && before ws j i)) q) h) in
          ⊎_elim
          (λ m. strong_both ws r t i (and_left (inside ws r i) (ltb (counted 0 (points_in ws) (λ j. inside ws r j && before ws j i)) q) h) m)
          (λ m. absurd
          (let w = counted_mono 0 (points_in ws) (strong ws r t) (λ j. inside ws r j && before ws j i)
          (λ j a b f. both_and (inside ws r j) (before ws j i) (strong_inside ws r t j f) (before_strength ws s j i b l ∙ lt-ltb (strength ws i) (strength ws j) (let z = strong_at ws r t j f in omega arith))) in
          omega arith))
          (le_or_lt t (strength ws i))

      self : before ws i i ≡ false
      self = before_strength ws s i i l l ∙ le-ltb (strength ws i) (strength ws i) (omega arith)

      no : (a : Bool) → (a && before ws i i) ≡ false
      no true = self
      no false = refl

      back : strong ws r t i ≡ true → (inside ws r i && ltb (counted 0 (points_in ws) (λ j. inside ws r j && before ws j i)) q) ≡ true
      back h =
          both_and (inside ws r i) (ltb (counted 0 (points_in ws) (λ j. inside ws r j && before ws j i)) q) (strong_inside ws r t i h)
          (lt-ltb (counted 0 (points_in ws) (λ j. inside ws r j && before ws j i)) q
          (let w = counted_strict 0 (points_in ws) (λ j. inside ws r j && before ws j i) (strong ws r t)
          (λ j a b f. strong_both ws r t j (and_left (inside ws r j) (before ws j i) f)
          (let x = ltb-true (strength ws i) (strength ws j) (sym (before_strength ws s j i b l) ∙ and_right (inside ws r j) (before ws j i) f) in let y = strong_at ws r t i h in omega arith))
          i (omega arith) l (no (inside ws r i)) h in
          omega arith))

  -- a strength from which on there are exactly q
  pub some_cut : {C : Type 0} (q : ℕ) → q ≤ many ws r → ((t : ℕ) → counted 0 (points_in ws) (strong ws r t) ≡ q → C) → C
  some_cut {C = C} q a g = down (2 ^ 64) (let z = none_above in omega arith)
    where
      down : (k : ℕ) → counted 0 (points_in ws) (strong ws r k) ≤ q → C
      down zero b = g 0 (let z = counted_same 0 (points_in ws) (strong ws r 0) (inside ws r) (λ i x y. strong_zero ws r i) in omega arith)
      down (suc k) b =
          ⊎_elim
          (λ l. down k l)
          (λ l. g (suc k) (let z = step_down k in let w = ap (λ (j : ℕ). counted 0 (points_in ws) (strong ws r j)) (add-one k) in omega arith))
          (le_or_lt (counted 0 (points_in ws) (strong ws r k)) q)
