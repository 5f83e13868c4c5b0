-- The samples that are tested before a window is read: the four neighbours of each of its cells (rule A13). Definitions only.
use Rattle.std.specs.Prelude.{ℕ, ◌+◌, Bool, List, Float}
use Rattle.lists.specs.Ranges.{every}
use Rattle.params.specs.Table.{all_good}
use Rattle.picture.specs.Picture.{four_at}
use Rattle.orient_window.specs.declared.Window.{Window}

-- number 6 (rule A13): the four neighbours of each cell of row y are good samples
unfoldable pub row_good : List Float → Window → ℕ → Bool
row_good img win y = every win.cols (λ j. all_good (four_at img win.size.width y (win.left + j)))

-- so are those of each cell of the window
unfoldable pub window_good : List Float → Window → Bool
window_good img win = every win.rows (λ i. row_good img win (win.top + i))
