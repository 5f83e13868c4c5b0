-- What orientation answers to a sound keypoint on a picture of its octave's size. Assumes nothing.
use Prim.Native.Nat.{ℕ, ◌+◌, ◌*◌, ◌≤◌}
use native.Mathlib.Omega.{arith}
use mathlib.Core.Path.{◌≡◌, refl, sym}
use mathlib.Core.Bool.{Bool, true, false}
use mathlib.Core.List.{List}
use lib.ListN.{length}
use lib.Ieee.{Float}
use borrow.Author.Tests.{ne_eqb, le-ltb}
use Rattle.lists.proofs.Every.{all_every}
use Rattle.params.specs.Limits.{max_side}
use Rattle.params.specs.Table.{shape_wrong, all_good}
use Rattle.picture.specs.declared.Size.{Size}
use Rattle.samples.proofs.Runs.{good_four}
use Rattle.params.specs.declared.Settings.{Settings}
use Rattle.detect_keypoint.specs.Sound.{Sound}
use Rattle.detect_keypoint.specs.declared.RawKeypoint.{RawKeypoint}
use Rattle.orient_window.specs.Good.{row_good, window_good}
use Rattle.orient_window.specs.Place.{Fits}
use Rattle.orient_window.specs.declared.Window.{Window}
use Rattle.orient_window.proofs.Cells.{cell_around}
use Rattle.orient.specs.Keypoint.{keypoint_wrong}
use Rattle.orient.specs.Entry.{window_at, orient_fault}
use Rattle.orient.proofs.Checks.{aimed, aimed_fits, fault_sample, fault_none}
use Rattle.road.specs.Rules.{six_unless}

-- what a sound keypoint says of its octave's sides
pub sides_right : (w h octave : ℕ) (s : Settings) (k : RawKeypoint) → w ≤ max_side → h ≤ max_side → Sound w h s octave k → shape_wrong w h ≡ false
unfolding shape_wrong
sides_right w h octave s k a b good =
    let c = good.right in
    let d = good.bottom in
    rw (ne_eqb w 0 (λ z. omega arith), le-ltb max_side w a, ne_eqb h 0 (λ z. omega arith), le-ltb max_side h b)

module _ (img : List Float) (s : Size) (whole : length img ≡ s.height * s.width) where
  -- a keypoint that passes number 5 can only be refused by 6
  pub orient_answers : (k : RawKeypoint) → shape_wrong s.width s.height ≡ false → keypoint_wrong s k ≡ false → orient_fault img s k ≡ six_unless (window_good img (window_at s k))
  orient_answers k shape right = go (window_good img (window_at s k)) refl
    where
      go : (b : Bool) → window_good img (window_at s k) ≡ b → orient_fault img s k ≡ six_unless b
      go true e = sym (fault_none s k img shape whole right e)
      go false e = sym (fault_sample s k img shape whole right e)

  module _ (good : all_good img ≡ true) where
    window_right : (win : Window) → Fits (length img) win → window_good img win ≡ true
    unfolding window_good row_good
    window_right win f =
        all_every win.rows _ (λ i a. all_every win.cols _ (λ j b. good_four img win.size (win.top + i) (win.left + j) good (cell_around f i j a b)))

    -- so the window about a keypoint that passes number 5
    pub window_good_lem : (k : RawKeypoint) → shape_wrong s.width s.height ≡ false → keypoint_wrong s k ≡ false → window_good img (window_at s k) ≡ true
    window_good_lem k shape right = window_right (window_at s k) (aimed_fits s k (length img) whole (aimed s k shape right))
