-- The keypoints of one layer, row by row, rules D2 and D17, and the words that they go out as, rule A18. Definitions only.
use Rattle.std.specs.Prelude.{ℕ, ◌-◌, cond, List, [], ◌∷◌, ◌++◌, option_to_list, Float}
use Rattle.ieee.specs.F32.{bits_of}
use Rattle.lists.specs.Ranges.{joined}
use Rattle.params.specs.Limits.{border}
use Rattle.picture.specs.declared.Shape.{Shape}
use Rattle.detect_refine.specs.Settle.{refine_of}
use Rattle.detect_keypoint.specs.declared.Cell.{Cell}
use Rattle.detect_keypoint.specs.declared.Search.{Search}
use Rattle.detect_keypoint.specs.declared.RawKeypoint.{RawKeypoint}
use Rattle.detect_extrema.specs.Neighbours.{Rule, candidate}

-- the cell of the layer that is searched, at row r, column c
abbrev pub cell_of : Search → ℕ → ℕ → Cell
cell_of s r c = record { p = s.layer; r = r; c = c }

-- what it gives: nothing, or the keypoint that it is refined to
unfoldable pub found : Rule → List Float → Shape → Search → ℕ → ℕ → List RawKeypoint
found rule d t s r c = cond (candidate rule s.threshold d t s.layer r c) (option_to_list (refine_of d t s (cell_of s r c))) []

-- the cells of a row from column lo to below hi, from left to right
abbrev pub cells_of : Rule → List Float → Shape → Search → ℕ → ℕ → ℕ → List RawKeypoint
cells_of rule d t s r lo hi = joined lo hi (λ c. found rule d t s r c)

-- those that are at least the border from both edges
unfoldable pub row_of : Rule → List Float → Shape → Search → ℕ → List RawKeypoint
row_of rule d t s r = cells_of rule d t s r border (t.width - border)

-- the rows that are at least the border from both edges, from top to bottom
unfoldable pub keypoints : Rule → List Float → Shape → Search → List RawKeypoint
keypoints rule d t s = joined border (t.height - border) (λ r. row_of rule d t s r)

-- x, y, size, response, octave, layer, xi, cc, rr and the moves
abbrev pub words_of : RawKeypoint → List ℕ
words_of k =
    bits_of k.x ∷ bits_of k.y ∷ bits_of k.size ∷ bits_of k.response ∷ k.octave ∷ k.layer ∷ bits_of k.xi ∷ k.cc ∷ k.rr ∷ k.moves ∷ []

unfoldable pub words : List RawKeypoint → List ℕ
words [] = []
words (k ∷ ks) = words_of k ++ words ks
