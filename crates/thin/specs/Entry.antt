-- What `thin` answers and leaves in the lent list, rules T1 and T7. Definitions only.
use Rattle.std.specs.Prelude.{ℕ, ◌%◌, Bool, not, ◌&&◌, ◌||◌, List, [], ◌∷◌, ltb, eqb, length}
use Rattle.std.specs.Float.Ieee.Scale.{finite}
use Rattle.lists.specs.Ranges.{every}
use Rattle.params.specs.Limits.{keypoint_words, max_keypoints, max_depth}
use Rattle.params.specs.Table.{line, first_fault, shape_wrong}
use Rattle.params.specs.Answers.{Answer, answer_of, landed}
use Rattle.thin_rule.specs.Rule.{points_in, response_of, inside, kept}
use Rattle.thin_rule.specs.declared.Region.{Region}

-- the frame as a region
abbrev pub frame : ℕ → ℕ → Region
frame w h = record { left = 0; right = w; top = 0; bottom = h }

-- x and y from 0 to below the frame's sides, and the response finite. The other words are free
unfoldable pub point_right : List ℕ → ℕ → ℕ → ℕ → Bool
point_right ws w h i = inside ws (frame w h) i && finite (response_of ws i)

-- 5: no quota, too deep, part of a keypoint, more keypoints than positions have numbers, or a keypoint that is not right
unfoldable pub input_wrong : List ℕ → ℕ → ℕ → ℕ → ℕ → Bool
input_wrong ws w h q d =
    ((eqb q 0 || ltb max_depth d) || (not (eqb (length ws % keypoint_words) 0) || ltb max_keypoints (points_in ws)))
    || not (every (points_in ws) (point_right ws w h))

unfoldable pub fault_of : List ℕ → ℕ → ℕ → ℕ → ℕ → ℕ
fault_of ws w h q d = first_fault (line 1 (shape_wrong w h) ∷ line 5 (input_wrong ws w h q d) ∷ [])

-- the positions that the frame keeps
abbrev pub kept_of : List ℕ → ℕ → ℕ → ℕ → ℕ → List ℕ
kept_of ws w h q d = kept ws d (frame w h) q

-- the answer, at `room` words lent, and the lent words afterwards
unfoldable pub thin_answer : List ℕ → ℕ → ℕ → ℕ → ℕ → ℕ → Answer
thin_answer ws w h q d room = answer_of (fault_of ws w h q d) (length (kept_of ws w h q d)) (length (kept_of ws w h q d)) room

unfoldable pub thin_out : List ℕ → ℕ → ℕ → ℕ → ℕ → List ℕ → List ℕ
thin_out ws w h q d out = landed (thin_answer ws w h q d (length out)) (kept_of ws w h q d) out
