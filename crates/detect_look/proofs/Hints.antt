-- Every candidate passes the first look: a selection leaves one of the six neighbours, and none of them beats a candidate. Assumes nothing.
use Prim.Native.Nat.{ℕ, ◌+◌, ◌-◌, ◌<◌, ◌≤◌}
use mathlib.Core.Path.{◌≡◌, refl, sym, ◌∙◌}
use mathlib.Core.Bool.{Bool, true, false, ◌&&◌, ◌||◌, not, cond}
use mathlib.Core.List.{List, [], ◌∷◌}
use native.Mathlib.Omega.{arith}
use lib.ListN.{length}
use lib.Ieee.{Float, neg}
use Rattle.ieee.specs.F32.{◌<ᶠ◌}
use Rattle.ieee.specs.Numbers.{nought}
use Rattle.lists.proofs.Bools.{and_left, and_right, or_right}
use Rattle.lists.proofs.Every.{every_all}
use Rattle.picture.specs.Stack.{sample}
use Rattle.picture.specs.declared.Shape.{Shape}
use Rattle.detect_keypoint.specs.declared.Search.{Search}
use Rattle.detect_extrema.specs.Neighbours.{tied, keeps_as, keeps_over, centre, passes, is_extremum, loud, candidate}
use Rattle.detect_extrema.specs.Scan.{found}
use Rattle.bounds.specs.Bounds.{greater_of, lesser_of}
use Rattle.detect_look.specs.Hints.{of_near, greatest_near, least_near, hint_at}
use Rattle.detect_extrema.proofs.Rows.{found_one}
use Rattle.detect_look.proofs.Sides.{loud_above, loud_under, clash}

pub not_yes : (b : Bool) → not b ≡ true → b ≡ false
not_yes true e = sym e
not_yes false e = refl

-- ---- a selection leaves one of the two

one_of : (P : Float → Type 0) (b : Bool) (x y : Float) → P x → P y → P (cond b x y)
one_of P true x y p q = p
one_of P false x y p q = q

abbrev Selects : (Float → Float → Float) → Type 1
Selects pick = (P : Float → Type 0) (a b : Float) → P a → P b → P (pick a b)

greater_selects : Selects greater_of
greater_selects P a b p q = one_of P (a <ᶠ b) b a q p

lesser_selects : Selects lesser_of
lesser_selects P a b p q = one_of P (a <ᶠ b) a b p q

module _ (d : List Float) (t : Shape) (p r c : ℕ) where
  abbrev here : Float
  here = sample d t p r c

  -- what holds of each of the 26 neighbours holds of the one that is left of the six
  of_near_lem : (pick : Float → Float → Float) → Selects pick → (P : Float → Type 0)
      → ((i j k : ℕ) → i < 3 → j < 3 → k < 3 → centre i j k ≡ false → P (sample d t (p + i - 1) (r + j - 1) (c + k - 1))) → P (of_near pick d t p r c)
  unfolding of_near
  of_near_lem pick one P at =
      let p0 : p + 1 - 1 ≡ p = omega arith in
      let p1 : p + 0 - 1 ≡ p - 1 = omega arith in
      let p2 : p + 2 - 1 ≡ p + 1 = omega arith in
      let r0 : r + 1 - 1 ≡ r = omega arith in
      let r1 : r + 0 - 1 ≡ r - 1 = omega arith in
      let r2 : r + 2 - 1 ≡ r + 1 = omega arith in
      let c0 : c + 1 - 1 ≡ c = omega arith in
      let c1 : c + 0 - 1 ≡ c - 1 = omega arith in
      let c2 : c + 2 - 1 ≡ c + 1 = omega arith in
      let left : P (sample d t p r (c - 1)) = rw (p0, r0, c1) at (at 1 1 0 (omega arith) (omega arith) (omega arith) refl) in
      let right : P (sample d t p r (c + 1)) = rw (p0, r0, c2) at (at 1 1 2 (omega arith) (omega arith) (omega arith) refl) in
      let above : P (sample d t p (r - 1) c) = rw (p0, r1, c0) at (at 1 0 1 (omega arith) (omega arith) (omega arith) refl) in
      let below : P (sample d t p (r + 1) c) = rw (p0, r2, c0) at (at 1 2 1 (omega arith) (omega arith) (omega arith) refl) in
      let before : P (sample d t (p - 1) r c) = rw (p1, r0, c0) at (at 0 1 1 (omega arith) (omega arith) (omega arith) refl) in
      let after : P (sample d t (p + 1) r c) = rw (p2, r0, c0) at (at 2 1 1 (omega arith) (omega arith) (omega arith) refl) in
      one P _ _ (one P _ _ left right) (one P _ _ (one P _ _ above below) (one P _ _ before after))

  -- ---- a candidate is beaten by none

  stands_beside : is_extremum tied d t p r c ≡ true → (i j k : ℕ) → i < 3 → j < 3 → k < 3 → centre i j k ≡ false
      → keeps_over tied here (sample d t (p + i - 1) (r + j - 1) (c + k - 1)) ≡ true
  unfolding is_extremum passes
  stands_beside e i j k a b g q =
      let f : (centre i j k || keeps_over tied here (sample d t (p + i - 1) (r + j - 1) (c + k - 1))) ≡ true = every_all 3 _ (every_all 3 _ (every_all 3 _ e i a) j b) k g in
      rw q at f

  pub candidate_seen : (threshold : Float) → candidate tied threshold d t p r c ≡ true → hint_at threshold d t p r c ≡ true
  unfolding candidate hint_at
  candidate_seen threshold e =
      go (nought <ᶠ here) refl
    where
      l : loud threshold here ≡ true
      l = and_left (loud threshold here) (is_extremum tied d t p r c) e

      g : is_extremum tied d t p r c ≡ true
      g = and_right (loud threshold here) (is_extremum tied d t p r c) e

      go : (b : Bool) → (nought <ᶠ here) ≡ b
          → (((threshold <ᶠ here) && keeps_as tied true here (greatest_near d t p r c)) || ((here <ᶠ neg threshold) && keeps_as tied false here (least_near d t p r c))) ≡ true
      go true q =
          let m = of_near_lem greater_of greater_selects (λ x. keeps_as tied true here x ≡ true) (λ i j k u v w z. rw q at (stands_beside g i j k u v w z)) in
          rw (loud_above threshold here l q, m)
      go false q =
          let m = of_near_lem lesser_of lesser_selects (λ x. keeps_as tied false here x ≡ true) (λ i j k u v w z. rw q at (stands_beside g i j k u v w z)) in
          or_right ((threshold <ᶠ here) && keeps_as tied true here (greatest_near d t p r c)) _ (rw (loud_under threshold here l q, m))

-- ---- so a cell without a hint gives nothing, and any cell no more than its hint counts

module _ (d : List Float) (t : Shape) (s : Search) (r c : ℕ) where
  abbrev hint : Bool
  hint = hint_at s.threshold d t s.layer r c

  pub unseen : hint ≡ false → found tied d t s r c ≡ []
  unfolding found
  unseen e = go (candidate tied s.threshold d t s.layer r c) refl
    where
      go : (b : Bool) → candidate tied s.threshold d t s.layer r c ≡ b → found tied d t s r c ≡ []
      go true q = clash (sym e ∙ candidate_seen d t s.layer r c s.threshold q)
      go false q = rw q

  pub found_hinted : length (found tied d t s r c) ≤ length (cond hint (c ∷ []) [])
  found_hinted = go hint refl
    where
      go : (b : Bool) → hint ≡ b → length (found tied d t s r c) ≤ length (cond b (c ∷ []) [])
      go true q = found_one tied d t s r c
      go false q = rw (unseen q) (omega arith)
