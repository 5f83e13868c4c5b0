-- What a step says of the place and the offset that it gives. Assumes nothing.
use Prim.Native.Nat.{ℕ, ◌+◌, ◌-◌, ◌<◌, ◌≤◌}
use mathlib.Core.Path.{◌≡◌, refl, ap}
use mathlib.Core.Bool.{Bool, true, false, cond}
use native.Mathlib.Omega.{arith}
use lib.Ieee.{Float}
use Rattle.params.specs.Limits.{border}
use Rattle.picture.specs.declared.Shape.{Shape}
use Rattle.detect_fit.specs.Fit.{gradient_of, bend_of, det_of, offset_of}
use Rattle.detect_fit.specs.declared.Patch.{Patch}
use Rattle.detect_fit.specs.declared.Offset.{Offset}
use Rattle.detect_keypoint.specs.Offsets.{small}
use Rattle.detect_keypoint.specs.declared.Cell.{Cell}
use Rattle.detect_refine.specs.Moves.{huge, moved, three, walk, singular, step_of}
use Rattle.detect_refine.specs.Place.{Placed}
use Rattle.std.specs.Prelude.{Option, Some, None}
use Rattle.detect_refine.specs.declared.Step.{Step}
use Rattle.detect_refine.specs.declared.Step.TheVariants.{Lost, Stay, Go}
use Rattle.detect_refine.proofs.Places.{placed_in}

-- ---- a step that stays is small; one that goes stays within the layers and the border

three_stay : (a b d : Option ℕ) (o : Offset) → three a b d ≡ Stay o → ⊥
three_stay (Some p) (Some r) (Some c) o e = let z : ◌≡◌ {A = ℕ} 0 1 = cc in omega arith
three_stay (Some p) (Some r) None o e = let z : ◌≡◌ {A = ℕ} 0 1 = cc in omega arith
three_stay (Some p) None m o e = let z : ◌≡◌ {A = ℕ} 0 1 = cc in omega arith
three_stay None l m o e = let z : ◌≡◌ {A = ℕ} 0 1 = cc in omega arith

three_go : (a b d : Option ℕ) (k : Cell) → three a b d ≡ Go k → (a ≡ Some k.p) × (b ≡ Some k.r) × (d ≡ Some k.c)
three_go (Some p) (Some r) (Some c) k e = let z : record { p = p; r = r; c = c } ≡ k = cc in (ap (λ (x : Cell). Some x.p) z, ap (λ (x : Cell). Some x.r) z, ap (λ (x : Cell). Some x.c) z)
three_go (Some p) (Some r) None k e = let z : ◌≡◌ {A = ℕ} 0 1 = cc in absurd (omega arith)
three_go (Some p) None m k e = let z : ◌≡◌ {A = ℕ} 0 1 = cc in absurd (omega arith)
three_go None l m k e = let z : ◌≡◌ {A = ℕ} 0 1 = cc in absurd (omega arith)

moved_in : (lo hi v : ℕ) (x : Float) (u : ℕ) → moved lo hi v x ≡ Some u → (lo ≤ u) × (u < hi)
unfolding moved
moved_in lo hi v x u e = placed_in lo hi _ u e

module _ (t : Shape) (layers : ℕ) (k : Cell) where
  abbrev layer_by : Offset → Option ℕ
  layer_by o = moved 1 (layers + 1) k.p o.xi

  abbrev row_by : Offset → Option ℕ
  row_by o = moved border (t.height - border) k.r o.xr

  abbrev column_by : Offset → Option ℕ
  column_by o = moved border (t.width - border) k.c o.xc

  abbrev goes : Offset → Step
  goes o = three (layer_by o) (row_by o) (column_by o)

  stay_goes : (o o' : Offset) → goes o ≡ Stay o' → ⊥
  stay_goes o o' e = three_stay (layer_by o) (row_by o) (column_by o) o' e

  go_goes : (o : Offset) (k' : Cell) → goes o ≡ Go k' → Placed t layers k'
  go_goes o k' e =
      let m = three_go (layer_by o) (row_by o) (column_by o) k' e in
      let i = moved_in _ _ _ _ k'.p m.0 in
      let j = moved_in _ _ _ _ k'.r m.1 in
      let l = moved_in _ _ _ _ k'.c m.2 in
      record { first = i.0; last = i.1; top = j.0; bottom = j.1; start = l.0; end = l.1 }

  walk_stay : (o o' : Offset) → walk t layers k o ≡ Stay o' → small o' ≡ true
  unfolding walk
  walk_stay o o' e = go (small o) (huge o) refl e
    where
      go : (a b : Bool) → small o ≡ a → cond a (Stay o) (cond b Lost (goes o)) ≡ Stay o' → small o' ≡ true
      go true b q f = let z : o ≡ o' = cc in rw (← z) q
      go false true q f = let z : ◌≡◌ {A = ℕ} 0 1 = cc in absurd (omega arith)
      go false false q f = absurd (stay_goes o o' f)

  walk_go : (o : Offset) (k' : Cell) → walk t layers k o ≡ Go k' → Placed t layers k'
  unfolding walk
  walk_go o k' e = go (small o) (huge o) e
    where
      go : (a b : Bool) → cond a (Stay o) (cond b Lost (goes o)) ≡ Go k' → Placed t layers k'
      go true b f = let z : ◌≡◌ {A = ℕ} 0 1 = cc in absurd (omega arith)
      go false true f = let z : ◌≡◌ {A = ℕ} 0 1 = cc in absurd (omega arith)
      go false false f = go_goes o k' f

  pub step_stay : (patch : Patch) (o : Offset) → step_of t layers k patch ≡ Stay o → small o ≡ true
  unfolding step_of
  step_stay patch o e = go (singular (det_of (bend_of patch))) e
    where
      go : (b : Bool) → cond b Lost (walk t layers k (offset_of (gradient_of patch) (bend_of patch) (det_of (bend_of patch)))) ≡ Stay o → small o ≡ true
      go true f = let z : ◌≡◌ {A = ℕ} 0 1 = cc in absurd (omega arith)
      go false f = walk_stay (offset_of (gradient_of patch) (bend_of patch) (det_of (bend_of patch))) o f

  -- and its offset is the fit's
  walk_offset : (o o' : Offset) → walk t layers k o ≡ Stay o' → o' ≡ o
  unfolding walk
  walk_offset o o' e = go (small o) (huge o) e
    where
      go : (a b : Bool) → cond a (Stay o) (cond b Lost (goes o)) ≡ Stay o' → o' ≡ o
      go true b f = cc
      go false true f = let z : ◌≡◌ {A = ℕ} 0 1 = cc in absurd (omega arith)
      go false false f = absurd (stay_goes o o' f)

  pub step_offset : (patch : Patch) (o : Offset) → step_of t layers k patch ≡ Stay o → o ≡ offset_of (gradient_of patch) (bend_of patch) (det_of (bend_of patch))
  unfolding step_of
  step_offset patch o e = go (singular (det_of (bend_of patch))) e
    where
      go : (b : Bool) → cond b Lost (walk t layers k (offset_of (gradient_of patch) (bend_of patch) (det_of (bend_of patch)))) ≡ Stay o
          → o ≡ offset_of (gradient_of patch) (bend_of patch) (det_of (bend_of patch))
      go true f = let z : ◌≡◌ {A = ℕ} 0 1 = cc in absurd (omega arith)
      go false f = walk_offset (offset_of (gradient_of patch) (bend_of patch) (det_of (bend_of patch))) o f

  pub step_go : (patch : Patch) (k' : Cell) → step_of t layers k patch ≡ Go k' → Placed t layers k'
  unfolding step_of
  step_go patch k' e = go (singular (det_of (bend_of patch))) e
    where
      go : (b : Bool) → cond b Lost (walk t layers k (offset_of (gradient_of patch) (bend_of patch) (det_of (bend_of patch)))) ≡ Go k' → Placed t layers k'
      go true f = let z : ◌≡◌ {A = ℕ} 0 1 = cc in absurd (omega arith)
      go false f = walk_go (offset_of (gradient_of patch) (bend_of patch) (det_of (bend_of patch))) k' f
