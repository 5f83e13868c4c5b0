-- Inner: the rows whose keypoints' cells are held, and the rows behind them; no part of a public contract. Definitions only.
use Rattle.std.specs.Prelude.{ℕ, ◌-◌, ◌≤◌, ◌≡◌, List, length, take, Float}
use Rattle.lists.specs.Ranges.{joined}
use Rattle.params.specs.Limits.{border}
use Rattle.picture.specs.declared.Shape.{Shape}
use Rattle.detect_keypoint.specs.declared.Search.{Search}
use Rattle.detect_look.specs.Hints.{hinted}
use Rattle.detect_words.specs.declared.Form.TheVariants.{CellWord}
use Rattle.detect_rows.specs.Forms.{rows_leave}

-- the cells of all keypoints of the rows above r, n of them, are the first words of what is held
pub record Holds (d : List Float) (t : Shape) (s : Search) (r n : ℕ) (hold : List ℕ) : Type 0 where
  pub above : border ≤ r
  pub below : r ≤ t.height - border
  pub count : n ≡ length (rows_leave CellWord d t s border r)
  pub fits : n ≤ length hold
  pub cells : take n hold ≡ rows_leave CellWord d t s border r

-- the cells with a hint of the rows from lo to below hi: they give no more keypoints than that
unfoldable pub rows_hinted : List Float → Shape → Search → ℕ → ℕ → List ℕ
rows_hinted d t s lo hi = joined lo hi (λ r. hinted d t s r border (t.width - border))
