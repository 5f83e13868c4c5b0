-- Inner: what is left of a keypoint, its ten words or the one word of the cell where it began; no part of a public contract. Definitions only.
use Rattle.std.specs.Prelude.{ℕ, ◌+◌, ◌*◌, ◌/◌, ◌%◌, List, map}
use Rattle.params.specs.Limits.{max_side}
use Rattle.detect_keypoint.specs.declared.Cell.{Cell}
use Rattle.detect_keypoint.specs.declared.Search.{Search}
use Rattle.detect_keypoint.specs.declared.RawKeypoint.{RawKeypoint}
use Rattle.detect_extrema.specs.Scan.{cell_of, words}
use Rattle.detect_words.specs.declared.Form.{Form}
use Rattle.detect_words.specs.declared.Form.TheVariants.{CellWord, KeypointWords}

-- a cell of the layer as one word, and back
abbrev pub cell_word : ℕ → ℕ → ℕ
cell_word r c = r * max_side + c

abbrev pub cell_at : Search → ℕ → Cell
cell_at s w = cell_of s (w / max_side) (w % max_side)

-- what the keypoints found at row r, column c, leave: the word of that cell for each, or their words
abbrev pub leaves : Form → ℕ → ℕ → List RawKeypoint → List ℕ
leaves CellWord r c ks = map (λ _. cell_word r c) ks
leaves KeypointWords r c ks = words ks
