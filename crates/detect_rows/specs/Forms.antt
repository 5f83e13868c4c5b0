-- Inner: what runs and rows of cells leave of the keypoints found there, and what held cells give again; no part of a public contract. Definitions only.
use Rattle.std.specs.Prelude.{ℕ, ◌-◌, ◌<◌, List, [], ◌∷◌, ◌++◌, length, get_or, option_to_list, Float}
use Rattle.lists.specs.Ranges.{joined}
use Rattle.params.specs.Limits.{border}
use Rattle.picture.specs.declared.Shape.{Shape}
use Rattle.detect_refine.specs.Settle.{refine_of}
use Rattle.detect_refine.specs.Place.{Placed}
use Rattle.detect_keypoint.specs.declared.Search.{Search}
use Rattle.detect_extrema.specs.Neighbours.{tied}
use Rattle.detect_extrema.specs.Scan.{found, words}
use Rattle.detect_words.specs.declared.Form.{Form}
use Rattle.detect_words.specs.Leaves.{cell_at, leaves}

-- what the cells of a row from column lo to below hi leave
abbrev pub run_leaves : Form → List Float → Shape → Search → ℕ → ℕ → ℕ → List ℕ
run_leaves form d t s r lo hi = joined lo hi (λ c. leaves form r c (found tied d t s r c))

-- the cells of a row that are at least the border from the edges, and those of the rows from lo to below hi
unfoldable pub row_leaves : Form → List Float → Shape → Search → ℕ → List ℕ
row_leaves form d t s r = run_leaves form d t s r border (t.width - border)

unfoldable pub rows_leave : Form → List Float → Shape → Search → ℕ → ℕ → List ℕ
rows_leave form d t s lo hi = joined lo hi (λ r. row_leaves form d t s r)

-- what the cell of a word gives where it is refined again, as words; and the cells of a list of words, one after the other
abbrev pub again : List Float → Shape → Search → ℕ → List ℕ
again d t s w = words (option_to_list (refine_of d t s (cell_at s w)))

unfoldable pub all_again : List Float → Shape → Search → List ℕ → List ℕ
all_again d t s [] = []
all_again d t s (w ∷ ws) = again d t s w ++ all_again d t s ws

-- each word is that of a cell at least the border from the edges
abbrev pub Cells : Shape → Search → List ℕ → Type 0
Cells t s ws = (i : ℕ) → i < length ws → Placed t s.settings.layers (cell_at s (get_or ws i 0))
