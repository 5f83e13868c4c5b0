-- A strength says which keypoint goes before another: the larger response, and of equal ones the earlier position. Assumes nothing.
use Prim.Native.Nat.{ℕ, ◌+◌, ◌-◌, ◌*◌, ◌^◌, ◌<◌}
use mathlib.Core.Path.{◌≡◌, refl, ap}
use mathlib.Core.Bool.{Bool, true, false, not, ◌&&◌, ◌||◌, false≢true}
use mathlib.Core.List.{List}
use mathlib.Core.Logic.{⊎_elim}
use native.Mathlib.Omega.{arith}
use borrow.Author.Tests.{ltb-true, ltb-false, lt-ltb, le-ltb, not-true}
use lib.Dec.{ltb}
use Rattle.lists.proofs.Bools.{and_left, and_right, both_and, or_cases, or_right, both_ways}
use Rattle.lists.proofs.Naturals.{le_or_lt}
use Rattle.thin_order.specs.Place.{place}
use Rattle.thin_order.proofs.Order.{place_rule}
use Rattle.thin_rule.specs.Rule.{points_in, word_at, before}
use Rattle.thin_rule.specs.Strength.{strength, Sound}
use Rattle.thin_order.proofs.Signs.{place_low, place_high}

place_lt : (w : ℕ) → w < 2 ^ 32 → place w < 2 ^ 32
place_lt w h =
    ⊎_elim
    (λ l. let e = place_high w l in omega arith)
    (λ l. let e = place_low w l in omega arith)
    (le_or_lt (2 ^ 31) w)

-- two places, each with a position below
or_left : (a b : Bool) → a ≡ true → (a || b) ≡ true
or_left true b e = refl
or_left false b e = absurd (false≢true e)

packed_order : (a b i j : ℕ) → i < 2 ^ 32 → j < 2 ^ 32 → (ltb a b || (not (ltb b a) && ltb j i)) ≡ ltb (a * 2 ^ 32 + (2 ^ 32 - 1 - i)) (b * 2 ^ 32 + (2 ^ 32 - 1 - j))
packed_order a b i j p q = both_ways (ltb a b || (not (ltb b a) && ltb j i)) (ltb (a * 2 ^ 32 + (2 ^ 32 - 1 - i)) (b * 2 ^ 32 + (2 ^ 32 - 1 - j))) there back
  where
    there : (ltb a b || (not (ltb b a) && ltb j i)) ≡ true → ltb (a * 2 ^ 32 + (2 ^ 32 - 1 - i)) (b * 2 ^ 32 + (2 ^ 32 - 1 - j)) ≡ true
    there h =
        lt-ltb (a * 2 ^ 32 + (2 ^ 32 - 1 - i)) (b * 2 ^ 32 + (2 ^ 32 - 1 - j))
        (⊎_elim
        (λ l. let w = ltb-true a b l in omega arith)
        (λ l. let w = ltb-false b a (not-true (ltb b a) (and_left (not (ltb b a)) (ltb j i) l)) in let v = ltb-true j i (and_right (not (ltb b a)) (ltb j i) l) in omega arith)
        (or_cases (ltb a b) (not (ltb b a) && ltb j i) h))

    back : ltb (a * 2 ^ 32 + (2 ^ 32 - 1 - i)) (b * 2 ^ 32 + (2 ^ 32 - 1 - j)) ≡ true → (ltb a b || (not (ltb b a) && ltb j i)) ≡ true
    back h =
        let w = ltb-true (a * 2 ^ 32 + (2 ^ 32 - 1 - i)) (b * 2 ^ 32 + (2 ^ 32 - 1 - j)) h in
        ⊎_elim
        (λ l. or_right (ltb a b) (not (ltb b a) && ltb j i) (both_and (not (ltb b a)) (ltb j i) (ap not (le-ltb b a (omega arith))) (lt-ltb j i (omega arith))))
        (λ l. or_left (ltb a b) (not (ltb b a) && ltb j i) (lt-ltb a b l))
        (le_or_lt b a)

module _ (ws : List ℕ) (s : Sound ws) where
  pub strength_lt : (i : ℕ) → i < points_in ws → strength ws i < 2 ^ 64
  unfolding strength
  strength_lt i h = let p = place_lt (word_at ws i 3) (s.words i h) in omega arith

  pub before_strength : (j i : ℕ) → j < points_in ws → i < points_in ws → before ws j i ≡ ltb (strength ws i) (strength ws j)
  unfolding before strength
  before_strength j i p q =
      let f = s.few in
      rw (place_rule (word_at ws i 3) (word_at ws j 3) (s.words i q) (s.words j p) (s.numbers i q) (s.numbers j p), place_rule (word_at ws j 3) (word_at ws i 3) (s.words j p) (s.words i q) (s.numbers j p) (s.numbers i q))
      (packed_order (place (word_at ws i 3)) (place (word_at ws j 3)) i j (omega arith) (omega arith))

  -- no two keypoints have the same
  pub strength_apart : (i j : ℕ) → i < points_in ws → j < points_in ws → strength ws i ≡ strength ws j → i ≡ j
  unfolding strength
  strength_apart i j p q e = let f = s.few in omega arith
