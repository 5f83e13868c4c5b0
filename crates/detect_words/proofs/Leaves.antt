-- What one cell leaves of what it gives, and that a cell's word is read as that cell. Assumes nothing.
use Prim.Native.Nat.{ℕ, ◌/◌, ◌%◌, ◌<◌, ◌≤◌}
use mathlib.Core.Path.{◌≡◌, refl}
use mathlib.Core.List.{[], ◌∷◌}
use native.Mathlib.Omega.{arith}
use lib.ListN.{length}
use Rattle.params.specs.Limits.{max_side, keypoint_words}
use Rattle.detect_keypoint.specs.declared.Search.{Search}
use Rattle.detect_keypoint.specs.declared.RawKeypoint.{RawKeypoint}
use Rattle.detect_extrema.specs.Scan.{cell_of, words, words_of}
use Rattle.detect_words.specs.declared.Form.{Form}
use Rattle.detect_words.specs.declared.Form.TheVariants.{CellWord, KeypointWords}
use Rattle.detect_words.specs.Leaves.{cell_word, cell_at, leaves}

pub leaves_none : (form : Form) (r c : ℕ) → leaves form r c [] ≡ []
unfolding words
leaves_none CellWord r c = refl
leaves_none KeypointWords r c = refl

pub leaves_one : (r c : ℕ) (k : RawKeypoint) → leaves KeypointWords r c (k ∷ []) ≡ words_of k
unfolding words
leaves_one r c k = refl

pub few_one : (form : Form) (r c : ℕ) (k : RawKeypoint) → length (leaves form r c (k ∷ [])) ≤ keypoint_words
few_one CellWord r c k = omega arith
few_one KeypointWords r c k = rw (leaves_one r c k) (omega arith)

-- a cell's word is read as that cell
pub cell_back : (s : Search) (r c : ℕ) → c < max_side → cell_at s (cell_word r c) ≡ cell_of s r c
cell_back s r c l =
    let a : cell_word r c / max_side ≡ r = omega arith in
    let b : cell_word r c % max_side ≡ c = omega arith in
    rw (a, b)
