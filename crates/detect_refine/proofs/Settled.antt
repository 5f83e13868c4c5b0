-- One move of the refinement, as the loop takes it, and how many a keypoint tells. Assumes nothing.
use Prim.Native.Nat.{ℕ, zero, suc, ◌+◌, ◌-◌, ◌<◌, ◌≤◌}
use mathlib.Core.Path.{◌≡◌, sym, ap}
use mathlib.Core.Bool.{Bool, true, false, ◌||◌, cond}
use mathlib.Core.List.{List}
use native.Mathlib.Omega.{arith}
use lib.Ieee.{Float}
use Rattle.params.specs.Limits.{max_moves}
use Rattle.picture.specs.declared.Shape.{Shape}
use Rattle.detect_fit.specs.declared.Patch.{Patch}
use Rattle.detect_fit.specs.declared.Offset.{Offset}
use Rattle.detect_keypoint.specs.Keypoint.{contrast_of, dim, edgy, keypoint_with, keypoint_of}
use Rattle.detect_keypoint.specs.declared.Cell.{Cell}
use Rattle.detect_keypoint.specs.declared.Search.{Search}
use Rattle.detect_keypoint.specs.declared.RawKeypoint.{RawKeypoint}
use Rattle.detect_refine.specs.Moves.{step_of}
use Rattle.detect_refine.specs.Settle.{ended, on_step, patch_at, settle_from, refine_of}
use Rattle.detect_refine.specs.Few.{FewMoves}
use Rattle.detect_refine.specs.declared.Step.{Step}
use Rattle.detect_refine.specs.declared.Step.TheVariants.{Lost, Stay, Go}
use Rattle.std.specs.Prelude.{Some, None}

one_less : (m : ℕ) → m < max_moves → max_moves - m ≡ suc (max_moves - (m + 1))
one_less m h = omega arith

-- `step` is the code's step on its patch, after m moves
module _ (d : List Float) (t : Shape) (s : Search) (m : ℕ) (k : Cell) (more : m < max_moves) (step : Step) (patch : Patch)
    (is : step ≡ step_of t s.settings.layers k patch) (at : patch ≡ patch_at d t k) where
  step_is : (e : Step) → step ≡ e → step_of t s.settings.layers k (patch_at d t k) ≡ e
  step_is e q = cc

  pub settle_lost : step ≡ Lost → settle_from d t s (max_moves - m) m k ≡ None
  unfolding settle_from
  settle_lost e = rw (one_less m more, step_is Lost e)

  pub settle_stay : (o : Offset) → step ≡ Stay o → settle_from d t s (max_moves - m) m k ≡ ended s m k patch o
  unfolding settle_from
  settle_stay o e = rw (one_less m more, step_is (Stay o) e, at)

  pub settle_go : (k' : Cell) → step ≡ Go k' → settle_from d t s (max_moves - m) m k ≡ settle_from d t s (max_moves - (m + 1)) (m + 1) k'
  unfolding settle_from
  settle_go k' e = rw (one_less m more, step_is (Go k') e)

pub settle_none : (d : List Float) (t : Shape) (s : Search) (m : ℕ) (k : Cell) → max_moves ≤ m → settle_from d t s (max_moves - m) m k ≡ None
unfolding settle_from
settle_none d t s m k e = let z : max_moves - m ≡ 0 = omega arith in rw z

-- ---- a keypoint that refinement gives

pub dropped_not : {A : Type 0} (found : RawKeypoint) → None ≡ Some found → A
dropped_not found e = let z : ◌≡◌ {A = ℕ} 0 1 = cc in absurd (omega arith)

at_same : (x y : RawKeypoint) → Some x ≡ Some y → x ≡ y
at_same x y e = cc

module _ (s : Search) (m : ℕ) (k : Cell) (patch : Patch) (o : Offset) (found : RawKeypoint) (e : ended s m k patch o ≡ Some found) where
  pub ended_at : keypoint_of s m k patch o ≡ found
  unfolding ended
  ended_at = go (dim s.settings (contrast_of patch o) || edgy s.settings patch) e
    where
      go : (b : Bool) → cond b None (Some (keypoint_of s m k patch o)) ≡ Some found → keypoint_of s m k patch o ≡ found
      go true f = dropped_not found f
      go false f = at_same (keypoint_of s m k patch o) found f

  -- the moves that it tells are those that were made
  pub ended_moves : found.moves ≡ m
  unfolding keypoint_of keypoint_with
  ended_moves = sym (ap (λ (x : RawKeypoint). x.moves) ended_at)

-- and fewer than the most: no premise on the samples, the cell or the settings
module _ (d : List Float) (t : Shape) (s : Search) (found : RawKeypoint) where
  settle_few : (left m : ℕ) (k : Cell) → settle_from d t s left m k ≡ Some found → found.moves < m + left
  unfolding settle_from
  settle_few zero m k e = dropped_not found e
  settle_few (suc left) m k e = go (λ k' f. let l = settle_few left (m + 1) k' f in omega arith) (step_of t s.settings.layers k (patch_at d t k)) e
    where
      go : ((k' : Cell) → settle_from d t s left (m + 1) k' ≡ Some found → found.moves < m + suc left)
          → (step : Step)
          → on_step step None (λ o. ended s m k (patch_at d t k) o) (λ k'. settle_from d t s left (m + 1) k') ≡ Some found
          → found.moves < m + suc left
      go later Lost f = dropped_not found f
      go later (Stay o) f = let i = ended_moves s m k (patch_at d t k) o found f in omega arith
      go later (Go k') f = later k' f

pub few_moves : FewMoves
unfolding refine_of
few_moves d t s k found e = settle_few d t s found max_moves 0 k e
