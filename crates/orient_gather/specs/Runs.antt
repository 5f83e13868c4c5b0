-- Inner: how the code goes over a window: runs of cells. Definitions only.
use Rattle.std.specs.Prelude.{ℕ, ◌+◌, ◌-◌, ◌/◌, ◌%◌, min, cond, leb}
use Rattle.orient_window.specs.declared.Window.{Window}
use Rattle.orient_tally.specs.Tally.{early}
use Rattle.orient_tally.specs.declared.Run.{Run}

-- of n cells the longest run that starts with the one after k others, lies in one row, and is early or late as a whole: where it starts
unfoldable pub run_of : Window → ℕ → ℕ → Run
run_of win n k = record { win = win; y = win.top + k / win.cols; from = win.left + k % win.cols; late = leb (early n) k }

-- how many cells it has: those that are left of the row, or of the early ones
unfoldable pub run_length : Window → ℕ → ℕ → ℕ
run_length win n k = cond (leb (early n) k) (win.cols - k % win.cols) (min (early n - k) (win.cols - k % win.cols))
