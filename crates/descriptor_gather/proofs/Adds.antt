-- One part more of what is gathered. Assumes nothing.
use Prim.Native.Nat.{ℕ, ◌+◌, ◌-◌, ◌*◌, ◌<◌, ◌≤◌}
use mathlib.Core.Path.{◌≡◌, refl, ap, ◌∙◌}
use mathlib.Core.Bool.{Bool, true, false, cond}
use mathlib.Core.List.{List, [], ◌∷◌, ◌++◌}
use native.Mathlib.Nat.{mul-one}
use native.Mathlib.Omega.{arith}
use lib.ListN.{length, length-append}
use lib.Ieee.{Float}
use Rattle.lists.specs.Ranges.{joined}
use Rattle.lists.proofs.Ranges.{joined_start, joined_more, joined_bound}
use Rattle.params.specs.Table.{all_good}
use Rattle.params.specs.Limits.{max_side}
use Rattle.picture.specs.Picture.{four_at, first_in, past_in}
use Rattle.descriptor_patch.specs.Patch.{grid_at}
use Rattle.descriptor_run.specs.Cells.{reads_of}
use Rattle.descriptor_run.specs.Run.{run_of, over_run, row_of}
use Rattle.descriptor_run.specs.declared.Run.{Run}
use Rattle.descriptor_patch.specs.declared.Sample.{Sample}
use Rattle.descriptor_patch.specs.declared.Patch.{Patch}
use Rattle.descriptor_run.proofs.Runs.{over_cells_lem}
use Rattle.descriptor_run.proofs.Rules.{good_part}
use Rattle.descriptor_shares.specs.Sharing.{spread_of}
use Rattle.descriptor_grid.specs.Grid.{scattered, gathered_in}
use Rattle.descriptor_gather.specs.Gather.{sample_in}

pub gathered_append : (angle : Float) (h : List Float) (xs ys : List Sample) → gathered_in angle h (xs ++ ys) ≡ gathered_in angle (gathered_in angle h xs) ys
unfolding gathered_in
gathered_append angle h [] ys = refl
gathered_append angle h (x ∷ xs) ys = gathered_append angle (scattered h (spread_of angle x)) xs ys

-- ss was gathered in h₀, which made it h, and counted
pub record Holds (angle : Float) (h₀ : List Float) (ss : List Sample) (h : List Float) (n : ℕ) : Type 0 where
  pub held : h ≡ gathered_in angle h₀ ss
  pub count : n ≡ length ss

pub holds_used : (angle : Float) (h h' : List Float) (s s' : Sample) (g : Bool) → g ≡ true → s ≡ s' → h' ≡ scattered h (spread_of angle s) → Holds angle h (cond g (s' ∷ []) []) h' 1
unfolding gathered_in
holds_used angle h h' s s' g p e q = rw (p, ← e) (record { held = q; count = refl })

pub holds_unused : (angle : Float) (h : List Float) (ss : List Sample) (g : Bool) → g ≡ false → Holds angle h (cond g ss []) h 0
unfolding gathered_in
holds_unused angle h ss g p = rw p (record { held = refl; count = refl })

pub holds_none : (angle : Float) (h : List Float) (lo : ℕ) (f : ℕ → List Sample) → Holds angle h (joined lo lo f) h 0
unfolding gathered_in
holds_none angle h lo f = rw (joined_start lo f) (record { held = refl; count = refl })

pub holds_more : {angle : Float} {h₀ h h' : List Float} {n k : ℕ} (lo hi : ℕ) (f : ℕ → List Sample) → lo ≤ hi → Holds angle h₀ (joined lo hi f) h n → h' ≡ gathered_in angle h (f hi) → k ≡ length (f hi) → Holds angle h₀ (joined lo (hi + 1) f) h' (n + k)
holds_more {angle} {h₀} {h} {h'} {n} {k} lo hi f l a p q =
    rw (joined_more lo hi f l)
    (record {
      held = p ∙ rw (a.held, gathered_append angle h₀ (joined lo hi f) (f hi));
      count = rw (length-append, a.count, q);
    })

-- ---- how many

pub one_most : (g : Bool) (s : Sample) → length (cond g (s ∷ []) []) ≤ 1
one_most true s = omega arith
one_most false s = omega arith

pub run_most : (img : List Float) (t : Patch) (r : ℕ) (e : Run) → length (over_run t r (sample_in img t) e) ≤ e.past
unfolding over_run
run_most img t r e =
    omega (arith, joined_bound 1 e.first e.past (λ c. cond (grid_at t r c) (sample_in img t r c) []) (λ c. one_most (grid_at t r c) _), mul-one (e.past - e.first))

pub more_rows : {n k w : ℕ} (r : ℕ) → n ≤ max_side * r → k ≤ w → w ≤ max_side → n + k ≤ max_side * (r + 1)
more_rows r h l m = omega arith

pub below_side : (at radius side r : ℕ) → r < past_in at radius side → side ≤ max_side → r < max_side
below_side at radius side r h k = omega arith

-- ---- a row of the patch

pub row_good_lem : (img : List Float) (t : Patch) (r : ℕ) → all_good (reads_of img t) ≡ true → first_in t.py t.radius ≤ r → r < past_in t.py t.radius t.size.height
    → all_good (over_run t r (four_at img t.size.width) (run_of t r)) ≡ true
unfolding reads_of row_of
row_good_lem img t r g a b = good_part _ _ r _ (ap all_good (over_cells_lem t (four_at img t.size.width)) ∙ g) a b
