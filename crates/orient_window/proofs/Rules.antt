-- The laws of a window's cells that specs/Rules.antt states. Assumes nothing.
use Rattle.std.proofs.Common.{◌≡◌, ℕ, ◌+◌, ◌*◌, ◌/◌, ◌%◌, ◌<◌, Bool, true, List, sym, ap, ◌∙◌, subst, mod-lt, div-lt_iff_lt-mul}
use lib.Ieee.{Float}
use Rattle.lists.proofs.Naturals.{packed}
use Rattle.params.specs.Table.{all_good}
use Rattle.picture.specs.Picture.{four_at}
use Rattle.lists.specs.Ranges.{every}
use Rattle.lists.proofs.Bools.{both_ways}
use Rattle.lists.proofs.Every.{every_all, all_every}
use Rattle.orient_window.specs.Window.{Cell, cell, cells_read}
use Rattle.orient_window.specs.Good.{row_good, window_good}
use Rattle.orient_window.specs.Rules.{read_at, WindowRule}
use Rattle.orient_window.specs.declared.Window.{Window}
use Rattle.orient_window.proofs.Cells.{read_is, cell_at_lem, cell_in, some_cols}

-- what is tested is what is read
module _ (img : List Float) (win : Window) where
  abbrev good_about : Cell → Bool
  good_about c = all_good (four_at img win.size.width c.row c.col)

  abbrev cells_test : ℕ → Bool
  cells_test k = good_about (read_at win k)

  read_good_lem : window_good img win ≡ true → every (cells_read win) cells_test ≡ true
  unfolding window_good row_good
  read_good_lem g = all_every (cells_read win) cells_test (λ k h. each k (subst (λ (n : ℕ). k < n) (read_is win) h))
    where
      each : (k : ℕ) → k < win.rows * win.cols → cells_test k ≡ true
      each k h =
          let c = some_cols win.rows win.cols k h in
          let r = every_all win.rows (λ i. row_good img win (win.top + i)) g (k / win.cols) ((div-lt_iff_lt-mul c).1 h) in
          ap good_about (cell_at_lem win k (cell 0 0) h) ∙ every_all win.cols (λ j. good_about (cell (win.top + k / win.cols) (win.left + j))) r (k % win.cols) (mod-lt k c)

  good_read : every (cells_read win) cells_test ≡ true → window_good img win ≡ true
  unfolding window_good row_good
  good_read g = all_every win.rows _ (λ i a. all_every win.cols _ (λ j b. each i j a b))
    where
      each : (i j : ℕ) → i < win.rows → j < win.cols → good_about (cell (win.top + i) (win.left + j)) ≡ true
      each i j a b =
          let h : i * win.cols + j < cells_read win = subst (λ (n : ℕ). i * win.cols + j < n) (sym (read_is win)) (packed a b) in
          ap good_about (sym (cell_in win i j (cell 0 0) a b)) ∙ every_all (cells_read win) cells_test g (i * win.cols + j) h

pub window_rule : WindowRule
window_rule = record { read = read_is; tested = λ img win. both_ways _ _ (read_good_lem img win) (good_read img win) }
