-- Inner: the answer by the samples and by the room that is lent, where no check before that of the samples fails; no part of a public contract. Definitions only.
use Rattle.std.specs.Prelude.{ℕ, ◌*◌, not, List, [], ◌∷◌, length, Float}
use Rattle.params.specs.Limits.{keypoint_words}
use Rattle.params.specs.Table.{line, first_fault, all_good}
use Rattle.params.specs.Answers.{Answer, answer_of}
use Rattle.detect_keypoint.specs.declared.RawKeypoint.{RawKeypoint}

-- the check of rule A3 that reads the samples
unfoldable pub sample_fault : List Float → ℕ
sample_fault d = first_fault (line 6 (not (all_good d)) ∷ [])

-- the answer where no check before that of room fails
abbrev pub room_answer : List RawKeypoint → ℕ → Answer
room_answer ks room = answer_of 0 (length ks) (keypoint_words * length ks) room

-- the answer where none before that of the samples does
abbrev pub sample_answer : List Float → List RawKeypoint → ℕ → Answer
sample_answer d ks room = answer_of (sample_fault d) (length ks) (keypoint_words * length ks) room
