-- With every sample negated, a candidate settles at the same place after the same moves, and its keypoint is the same but for the sign of an offset xi that is zero.
-- Assumes nothing.
use Prim.Native.Nat.{ℕ, zero, suc, ◌+◌, ◌-◌, ◌≤◌}
use mathlib.Core.Path.{◌≡◌, refl}
use mathlib.Core.Bool.{Bool, true, false, ◌&&◌, ◌||◌, cond}
use mathlib.Core.List.{List}
use borrow.Author.Tests.{leb-true}
use lib.Dec.{leb, ltb}
use lib.IntN.{ℤ, pos, negsuc, ◌+ℤ◌}
use lib.ListN.{get_or}
use lib.Ieee.{Float, nan, binary32}
use Rattle.ieee.specs.F32.{rounded, to_i32}
use Rattle.ieee_laws.specs.Sign.{Opp, Same}
use Rattle.ieee_laws.proofs.Turned.{eq_turned}
use Rattle.ieee_laws.proofs.TurnedOps.{zero_any, abs_turned, round_even_turned, to_signed_same}
use Rattle.params.specs.Limits.{border, max_moves}
use Rattle.picture.specs.declared.Shape.{Shape}
use Rattle.detect_fit.specs.declared.Patch.{Patch}
use Rattle.detect_fit.specs.declared.Offset.{Offset}
use Rattle.detect_fit.proofs.SignLaw.{SameOffset, det_opp, offset_same, gradient_opp, bend_opp}
use Rattle.detect_keypoint.proofs.SignLaw.{Deep, dim_same, edgy_same, keypoint_same}
use Rattle.detect_keypoint.specs.Offsets.{small}
use Rattle.detect_keypoint.specs.Keypoint.{contrast_of, dim, edgy}
use Rattle.detect_keypoint.specs.declared.Cell.{Cell}
use Rattle.detect_keypoint.specs.declared.Search.{Search}
use Rattle.detect_keypoint.specs.declared.RawKeypoint.{RawKeypoint}
use Rattle.detect_refine.specs.Moves.{huge, placed, moved, three, walk, step_of}
use Rattle.detect_refine.specs.Settle.{ended, on_step, patch_at, settle_from, refine_of}
use Rattle.std.specs.Prelude.{Option, Some, None}
use Rattle.detect_refine.specs.declared.Step.{Step}
use Rattle.detect_refine.specs.declared.Step.TheVariants.{Lost, Stay, Go}
use Rattle.detect_refine.specs.Sign.{SameRefined, both_dropped, both_at}

-- ---- one step. A move never leaves the layers from 1 on or the border

data SameStep : Step → Step → Type 0 where
  both_lost : SameStep Lost Lost
  both_stay : {o q : Offset} → SameOffset o q → SameStep (Stay o) (Stay q)
  both_go : {k : Cell} → Deep k → SameStep (Go k) (Go k)

data AtLeast (lo : ℕ) : Option ℕ → Type 0 where
  left_out : AtLeast lo None
  inside : {u : ℕ} → lo ≤ u → AtLeast lo (Some u)

placed_at_least : (lo hi : ℕ) (z : ℤ) → AtLeast lo (placed lo hi z)
unfolding placed
placed_at_least lo hi (pos u) = go (leb lo u) (ltb u hi) refl
  where
    go : (a b : Bool) → leb lo u ≡ a → AtLeast lo (cond (a && b) (Some u) None)
    go true true e = inside (leb-true lo u e)
    go true false e = left_out
    go false b e = left_out
placed_at_least lo hi (negsuc u) = left_out

moved_at_least : (lo hi v : ℕ) (x : Float) → AtLeast lo (moved lo hi v x)
unfolding moved
moved_at_least lo hi v x = placed_at_least lo hi (pos v +ℤ to_i32 (rounded x))

moved_same : (lo hi v : ℕ) {x y : Float} → Same x y → moved lo hi v y ≡ moved lo hi v x
unfolding moved
moved_same lo hi v s = rw (to_signed_same 31 (round_even_turned binary32 s))

small_same : {o q : Offset} → SameOffset o q → small q ≡ small o
unfolding small
small_same s = rw (abs_turned s.xi, abs_turned s.xr, abs_turned s.xc)

huge_same : {o q : Offset} → SameOffset o q → huge q ≡ huge o
unfolding huge
huge_same s = rw (abs_turned s.xi, abs_turned s.xr, abs_turned s.xc)

three_same : {l m n : Option ℕ} → AtLeast 1 l → AtLeast border m → AtLeast border n → SameStep (three l m n) (three l m n)
three_same (inside p) (inside r) (inside c) = both_go (p, r, c)
three_same (inside p) (inside r) left_out = both_lost
three_same (inside p) left_out n = both_lost
three_same left_out m n = both_lost

cond_step : (b : Bool) {s t u v : Step} → SameStep s u → SameStep t v → SameStep (cond b s t) (cond b u v)
cond_step true p q = p
cond_step false p q = q

walk_same : (t : Shape) (layers : ℕ) (k : Cell) {o q : Offset} → SameOffset o q → SameStep (walk t layers k o) (walk t layers k q)
unfolding walk
walk_same t layers k {o} s =
    rw (small_same s, huge_same s, moved_same 1 (layers + 1) k.p s.xi, moved_same border (t.height - border) k.r s.xr, moved_same border (t.width - border) k.c s.xc)
    (cond_step (small o) (both_stay s)
    (cond_step (huge o) both_lost
    (three_same (moved_at_least 1 (layers + 1) k.p o.xi) (moved_at_least border (t.height - border) k.r o.xr) (moved_at_least border (t.width - border) k.c o.xc))))

-- a choice whose test is the same, and whose second case is the same where the test fails
pick_step : (z z' : Bool) {s t : Step} → z' ≡ z → (z ≡ false → SameStep s t) → SameStep (cond z Lost s) (cond z' Lost t)
pick_step true z' e h = rw e both_lost
pick_step false z' e h = rw e (h refl)

cond_refined : (b : Bool) {s t : Option RawKeypoint} → SameRefined s t → SameRefined (cond b None s) (cond b None t)
cond_refined true p = both_dropped
cond_refined false p = p

-- ---- a stack and its negative

module _ (d e : List Float) (t : Shape) (s : Search) (o : (i : ℕ) → Opp (get_or d i nan) (get_or e i nan)) where
  module _ (k : Cell) where
    abbrev here : Patch
    here = patch_at d t k

    abbrev there : Patch
    there = patch_at e t k

    step_same : SameStep (step_of t s.settings.layers k here) (step_of t s.settings.layers k there)
    unfolding step_of
    step_same =
        let g = gradient_opp d e t o k.p k.r k.c in
        let b = bend_opp d e t o k.p k.r k.c in
        let x = det_opp b in
        pick_step _ _ (eq_turned x (zero_any true)) (λ n. walk_same t s.settings.layers k (offset_same g b x n))

    ended_same : (moves : ℕ) {u v : Offset} → Deep k → SameOffset u v → SameRefined (ended s moves k here u) (ended s moves k there v)
    unfolding ended
    ended_same moves {u} deep q =
        rw (dim_same d e t s o k q, edgy_same d e t s o k) (cond_refined (dim s.settings (contrast_of here u) || edgy s.settings here) (both_at (keypoint_same d e t s o k moves deep q)))

  settle_same : (left moves : ℕ) (k : Cell) → Deep k → SameRefined (settle_from d t s left moves k) (settle_from e t s left moves k)
  unfolding settle_from
  settle_same zero moves k deep = both_dropped
  settle_same (suc left) moves k deep = follow (λ k' in'. settle_same left (moves + 1) k' in') (step_same k)
    where
      follow : {a b : Step}
          → ((k' : Cell) → Deep k' → SameRefined (settle_from d t s left (moves + 1) k') (settle_from e t s left (moves + 1) k'))
          → SameStep a b
          → SameRefined (on_step a None (λ u. ended s moves k (here k) u) (λ k'. settle_from d t s left (moves + 1) k'))
          (on_step b None (λ u. ended s moves k (there k) u) (λ k'. settle_from e t s left (moves + 1) k'))
      follow rest both_lost = both_dropped
      follow rest (both_stay q) = ended_same k moves deep q
      follow rest (both_go {k = k'} in') = rest k' in'

  pub refine_same : (k : Cell) → 1 ≤ k.p → border ≤ k.r → border ≤ k.c → SameRefined (refine_of d t s k) (refine_of e t s k)
  unfolding refine_of
  refine_same k p r c = settle_same max_moves 0 k (p, r, c)
