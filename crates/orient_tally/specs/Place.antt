-- Inner: what the code asks of a cell of a window, no part of what a caller is promised. Definitions only.
use Rattle.std.specs.Prelude.{ℕ, ◌+◌, ◌<◌, ◌≤◌, ◌≡◌, true, List, length, pos, Float}
use Rattle.std.specs.Float.{binary32}
use Rattle.std.specs.Float.Ieee.{of_int}
use Rattle.ieee.specs.F32.{◌⊗◌}
use Rattle.hal.specs.Exp.{in_down}
use Rattle.hal_reach.specs.Reach.{in_angle}
use Rattle.params.specs.Limits.{max_side}
use Rattle.picture.specs.Picture.{slope_at}
use Rattle.picture.specs.Place.{Around}
use Rattle.orient_window.specs.Window.{Cell, cell}
use Rattle.orient_window.specs.Good.{window_good}
use Rattle.orient_window.specs.Place.{max_reach, Fits}
use Rattle.orient_tally.specs.Sample.{apart, square_at}
use Rattle.orient_window.specs.declared.Window.{Window}

-- (y, x) is near the window's middle
pub record Near (win : Window) (y x : ℕ) : Type 0 where
  pub high : y ≤ max_side
  pub wide : x ≤ max_side
  pub rows : apart y win.row ≤ max_reach
  pub cols : apart x win.col ≤ max_reach

-- and it lies in the picture with its four neighbours
pub record Placed (len : ℕ) (win : Window) (y x : ℕ) : Type 0 where
  pub around : Around len win.size y x
  pub near : Near win y x

-- what the exponential is asked for the weight of a cell
abbrev pub exponent_at : Window → Cell → Float
exponent_at win c = of_int binary32 (pos (square_at win c)) ⊗ win.falloff

-- what the sample of the cell (y, x) asks: its place, and that each routine is asked inside its range
pub record Asked (img : List Float) (win : Window) (y x : ℕ) : Type 0 where
  pub place : Placed (length img) win y x
  pub slope : in_angle (slope_at img win.size.width y x).dx (slope_at img win.size.width y x).dy ≡ true
  pub down : in_down (exponent_at win (cell y x)) ≡ true

-- the same of a window: it lies in the picture, and its cells are asked inside the routines' ranges
pub record InRange (img : List Float) (win : Window) : Type 0 where
  pub fits : Fits (length img) win
  pub good : window_good img win ≡ true
  pub down : (i j : ℕ) → i < win.rows → j < win.cols → in_down (exponent_at win (cell (win.top + i) (win.left + j))) ≡ true
