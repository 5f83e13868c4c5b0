-- Law: what is proved of a window's cells: proofs/Rules.antt proves each. Definitions only.
use Rattle.std.specs.Prelude.{◌≡◌, ℕ, ◌*◌, List, slice_index_or, Float}
use Rattle.params.specs.Table.{all_good}
use Rattle.picture.specs.Picture.{four_at}
use Rattle.lists.specs.Ranges.{every}
use Rattle.orient_window.specs.Window.{Cell, cell, cells_of, cells_read}
use Rattle.orient_window.specs.Good.{window_good}
use Rattle.orient_window.specs.declared.Window.{Window}

-- the place of the cell that is read after k others
abbrev pub read_at : Window → ℕ → Cell
read_at win k = slice_index_or (cells_of win) k (cell 0 0)

pub record WindowRule : Type 0 where
  -- n, the number of cells read, is rows × columns
  pub read : (win : Window) → cells_read win ≡ win.rows * win.cols
  -- the samples that are tested are the four neighbours of each cell that is read, and no others
  pub tested : (img : List Float) (win : Window) → window_good img win ≡ every (cells_read win) (λ k. all_good (four_at img win.size.width (read_at win k).row (read_at win k).col))
