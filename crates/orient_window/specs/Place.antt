-- Inner: what the code asks of a window, and where its cells lie, no part of what a caller is promised. Definitions only.
use Rattle.std.specs.Prelude.{◌≡◌, ℕ, suc, ◌+◌, ◌-◌, ◌*◌, ◌/◌, ◌%◌, ◌≤◌, max}
use Rattle.params.specs.Limits.{max_side}
use Rattle.orient_window.specs.Window.{Cell, cell}
use Rattle.orient_window.specs.declared.Window.{Window}

-- no cell of a window is further than this from its middle, in rows or in columns: 4.5 × 64, the radius at the largest scale
abbrev pub max_reach : ℕ
max_reach = 288

-- the window lies inside a picture, whose list is `len` long: neither in its first or last row nor in its first or last column
pub record Fits (len : ℕ) (win : Window) : Type 0 where
  pub whole : len ≡ win.size.height * win.size.width
  pub high : win.size.height ≤ max_side
  pub wide : win.size.width ≤ max_side
  pub top : 1 ≤ win.top
  pub left : 1 ≤ win.left
  pub bottom : win.top + win.rows ≤ max 1 (win.size.height - 1)
  pub right : win.left + win.cols ≤ max 1 (win.size.width - 1)
  pub above : win.row ≤ win.top + max_reach
  pub below : win.top + win.rows ≤ suc (win.row + max_reach)
  pub before : win.col ≤ win.left + max_reach
  pub after : win.left + win.cols ≤ suc (win.col + max_reach)

-- where the cell lies that is read after k others
abbrev pub cell_at : Window → ℕ → Cell
cell_at win k = cell (win.top + k / win.cols) (win.left + k % win.cols)
