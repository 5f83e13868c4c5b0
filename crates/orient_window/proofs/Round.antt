-- A window that is good with the cells round it. Assumes nothing.
use Rattle.std.proofs.Common.{◌≡◌, ℕ, ◌+◌, ◌<◌, true, ◌&&◌, ltb, List, length, arith, ltb→lt}
use lib.Ieee.{Float}
use Rattle.lists.proofs.Bools.{and_both, is_T}
use Rattle.lists.proofs.Every.{all_every}
use Rattle.samples.specs.Area.{Inset, area_good}
use Rattle.samples.specs.declared.Area.{Area}
use Rattle.samples.proofs.Strips.{area_four}
use Rattle.orient_window.specs.Good.{row_good, window_good}
use Rattle.orient_window.specs.Place.{Fits}
use Rattle.orient_window.specs.declared.Window.{Window}

abbrev pub area_of : Window → Area
area_of win = record { top = win.top; bottom = win.top + win.rows; left = win.left; right = win.left + win.cols }

pub some_cells : (r c : ℕ) → (ltb 0 r && ltb 0 c) ≡ true → (0 < r) × (0 < c)
some_cells r c h = let p = and_both (ltb 0 r) (ltb 0 c) h in (ltb→lt 0 r (is_T _ p.0), ltb→lt 0 c (is_T _ p.1))

pub area_in : (len : ℕ) (win : Window) → Fits len win → 0 < win.rows → 0 < win.cols → Inset len win.size (area_of win)
area_in len win f r c = record { whole = f.whole; up = f.top; down = omega (arith, f); left = f.left; right = omega (arith, f); order = omega arith }

pub area_window : (img : List Float) (win : Window) → Fits (length img) win → 0 < win.rows → 0 < win.cols → area_good img win.size.width (area_of win) ≡ true → window_good img win ≡ true
unfolding window_good row_good
area_window img win f r c g =
    all_every win.rows _
    (λ i a. all_every win.cols _ (λ j b. area_four img win.size (area_of win) (area_in (length img) win f r c) g (win.top + i) (win.left + j) (omega arith) (omega arith) (omega arith) (omega arith)))
