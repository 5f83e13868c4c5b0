-- What `find_extrema` answers and leaves in the lent words. Definitions only.
use Rattle.std.specs.Prelude.{ℕ, ◌*◌, not, List, [], ◌∷◌, length, Float}
use Rattle.params.specs.Limits.{keypoint_words}
use Rattle.params.specs.Table.{line, first_fault, shape_wrong, layers_wrong, length_wrong, settings_wrong, all_good}
use Rattle.params.specs.Answers.{Answer, answer_of, landed}
use Rattle.params.specs.declared.Settings.{Settings}
use Rattle.picture.specs.declared.Shape.{Shape}
use Rattle.detect_keypoint.specs.Search.{search_of}
use Rattle.detect_keypoint.specs.declared.RawKeypoint.{RawKeypoint}
use Rattle.detect_extrema.specs.Neighbours.{tied}
use Rattle.detect_extrema.specs.Scan.{keypoints, words}

-- the checks of rule A3, in their order; 5 has no argument here
unfoldable pub fault_of : List Float → Shape → ℕ → ℕ → Settings → ℕ
fault_of d t layer octave s =
    first_fault
    (line 1 (shape_wrong t.width t.height)
    ∷ line 2 (layers_wrong t.planes layer s.layers)
    ∷ line 3 (length_wrong (length d) (t.planes * t.height * t.width))
    ∷ line 4 (settings_wrong s octave)
    ∷ line 6 (not (all_good d))
    ∷ [])

-- the list that the source's rule gives
abbrev pub list_of : List Float → Shape → ℕ → ℕ → Settings → List RawKeypoint
list_of d t layer octave s = keypoints tied d t (search_of layer octave s)

-- the answer, at `room` words lent: 7 counts keypoints
unfoldable pub extrema_answer : List Float → Shape → ℕ → ℕ → Settings → ℕ → Answer
extrema_answer d t layer octave s room =
    answer_of (fault_of d t layer octave s) (length (list_of d t layer octave s)) (keypoint_words * length (list_of d t layer octave s)) room

-- the lent words afterwards
unfoldable pub extrema_out : List Float → Shape → ℕ → ℕ → Settings → List ℕ → List ℕ
extrema_out d t layer octave s out =
    landed (extrema_answer d t layer octave s (length out)) (words (list_of d t layer octave s)) out
