-- With every sample negated, the cells give the same keypoints. All but `larger_turned` is for every rule of comparison.
-- Assumes nothing.
use Rattle.std.specs.Prelude.{Option, option_to_list}
use Prim.Native.Nat.{ℕ, zero, suc, ◌-◌, ◌≤◌}
use mathlib.Core.Path.{◌≡◌, refl, ap, ◌∙◌}
use mathlib.Core.Bool.{Bool, true, false, ◌&&◌, ◌||◌, cond}
use mathlib.Core.List.{List, [], ◌++◌}
use borrow.Author.Tests.{leb-true}
use lib.Dec.{leb}
use lib.ListN.{length, get_or}
use lib.Ieee.{Float, nan, le}
use Rattle.ieee.specs.F32.{abs_of}
use Rattle.ieee.specs.Numbers.{nought}
use Rattle.ieee_laws.specs.Sign.{Opp}
use Rattle.ieee_laws.proofs.Turned.{le_turned, lt_turned}
use Rattle.ieee_laws.proofs.TurnedOps.{zero_any, abs_turned, Signed, above, under, signed}
use Rattle.ieee_laws.proofs.Order.{le_lt_trans}
use Rattle.lists.specs.Ranges.{every, joined}
use Rattle.params.specs.Limits.{border}
use Rattle.picture.specs.Stack.{sample}
use Rattle.picture.specs.declared.Shape.{Shape}
use Rattle.detect_refine.specs.Sign.{SameRefined, both_dropped, both_at}
use Rattle.detect_keypoint.specs.declared.Search.{Search}
use Rattle.detect_keypoint.specs.declared.RawKeypoint.{RawKeypoint}
use Rattle.detect_fit.proofs.SignLaw.{at_opp}
use Rattle.detect_refine.proofs.SignLaw.{refine_same}
use Rattle.detect_extrema.specs.Neighbours.{Rule, tied, larger, keeps_over, centre, passes, is_extremum, loud, candidate}
use Rattle.detect_extrema.specs.Scan.{cell_of, found, row_of, keypoints}
use Rattle.detect_extrema.specs.SameList.{SameList, none, more}

-- ---- a candidate

-- what the law asks of a rule: with both signs turned, the two change places
larger_turned : (rule : Rule) {a b a' b' : Float} → Opp a a' → Opp b b' → larger rule a' b' ≡ larger rule b a
larger_turned tied p q = le_turned q p

-- a cell that is loud is positive or negative, and not both; at a zero, which counts as negative either way, the two sides of the test would differ
keeps_same : (rule : Rule) {v u n m : Float} → Opp v u → Opp n m → Signed v → keeps_over rule u m ≡ keeps_over rule v n
keeps_same rule p q (above a c) = rw (lt_turned (zero_any true) p ∙ c, a) (larger_turned rule q p)
keeps_same rule p q (under a c) = rw (lt_turned (zero_any true) p ∙ c, a) (larger_turned rule p q)

loud_same : (threshold : Float) {v u : Float} → Opp v u → loud threshold u ≡ loud threshold v
unfolding loud
loud_same threshold o = rw (abs_turned o)

loud_signed : (threshold v : Float) → le nought threshold ≡ true → loud threshold v ≡ true → Signed v
unfolding loud
loud_signed threshold v t l = signed v (le_lt_trans nought threshold (abs_of v) t l)

every_same : (n : ℕ) (f g : ℕ → Bool) → ((i : ℕ) → g i ≡ f i) → every n g ≡ every n f
unfolding every
every_same zero f g h = refl
every_same (suc n) f g h = rw (every_same n f g h, h n)

-- ---- lists

append_same : {a b c d : List RawKeypoint} → SameList a b → SameList c d → SameList (a ++ c) (b ++ d)
append_same none q = q
append_same (more k p) q = more k (append_same p q)

pick_same : (b : Bool) {x y : List RawKeypoint} → (b ≡ true → SameList x y) → SameList (cond b x []) (cond b y [])
pick_same true s = s refl
pick_same false s = none

-- only the places from lo on count
joined_same : (lo hi : ℕ) (f g : ℕ → List RawKeypoint) → ((i : ℕ) → lo ≤ i → SameList (f i) (g i)) → SameList (joined lo hi f) (joined lo hi g)
unfolding joined
joined_same lo zero f g h = none
joined_same lo (suc hi) f g h = pick_same (leb lo hi) (λ e. append_same (joined_same lo hi f g h) (h hi (leb-true lo hi e)))

kept_same : {a b : Option RawKeypoint} → SameRefined a b → SameList (option_to_list a) (option_to_list b)
kept_same both_dropped = none
kept_same (both_at k) = more k none

pub same_length : {a b : List RawKeypoint} → SameList a b → length b ≡ length a
same_length none = refl
same_length (more k s) = ap suc (same_length s)

-- ---- a stack and its negative, at a threshold that is not negative

module _ (rule : Rule) (d e : List Float) (t : Shape) (s : Search) (o : (i : ℕ) → Opp (get_or d i nan) (get_or e i nan))
    (floor : le nought s.threshold ≡ true) (first : 1 ≤ s.layer) where
  abbrev threshold : Float
  threshold = s.threshold

  abbrev p : ℕ
  p = s.layer

  cells : (p r c : ℕ) → Opp (sample d t p r c) (sample e t p r c)
  cells = at_opp d e t o

  extremum_same : (r c : ℕ) → loud threshold (sample d t p r c) ≡ true → is_extremum rule e t p r c ≡ is_extremum rule d t p r c
  unfolding is_extremum passes
  extremum_same r c l =
      let v = loud_signed threshold (sample d t p r c) floor l in
      every_same 3 _ _ (λ i. every_same 3 _ _ (λ j. every_same 3 _ _ (λ k. ap (λ (b : Bool). centre i j k || b) (keeps_same rule (cells _ _ _) (cells _ _ _) v))))

  candidate_same : (r c : ℕ) → candidate rule threshold e t p r c ≡ candidate rule threshold d t p r c
  unfolding candidate
  candidate_same r c = go (loud threshold (sample d t p r c)) refl
    where
      go : (b : Bool) → loud threshold (sample d t p r c) ≡ b
          → (loud threshold (sample e t p r c) && is_extremum rule e t p r c) ≡ (loud threshold (sample d t p r c) && is_extremum rule d t p r c)
      go true q = rw (loud_same threshold (cells p r c), q) (extremum_same r c q)
      go false q = rw (loud_same threshold (cells p r c), q)

  found_same : (r c : ℕ) → border ≤ r → border ≤ c → SameList (found rule d t s r c) (found rule e t s r c)
  unfolding found
  found_same r c R C = rw (candidate_same r c) (pick_same (candidate rule threshold d t p r c) (λ _. kept_same (refine_same d e t s o (cell_of s r c) first R C)))

  pub keypoints_same : SameList (keypoints rule d t s) (keypoints rule e t s)
  unfolding keypoints row_of
  keypoints_same = joined_same border (t.height - border) _ _ (λ r R. joined_same border (t.width - border) _ _ (λ c C. found_same r c R C))
