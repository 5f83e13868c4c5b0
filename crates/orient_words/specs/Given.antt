-- Inner: what the last step makes of the angles found and the cells read: the answer, and the lent words. No part of what a caller is promised. Definitions only.
use Rattle.std.specs.Prelude.{ℕ, ◌*◌, List, map, length, take}
use Rattle.params.specs.Answers.{Answer, answer_of, landed}
use Rattle.detect_keypoint.specs.declared.RawKeypoint.{RawKeypoint}
use Rattle.orient_words.specs.Oriented.{oriented_of, oriented_words, words, OrientAnswer, answered_with}
use Rattle.orient_words.specs.declared.Directions.{Directions}

unfoldable pub room_for : Directions → ℕ → Answer
room_for d room = answer_of 0 d.angles.count (oriented_words * d.angles.count) room

unfoldable pub given_with : Directions → ℕ → OrientAnswer
given_with d room = answered_with (room_for d room) d.read

unfoldable pub left_with : RawKeypoint → Directions → List ℕ → List ℕ
left_with k d out = landed (room_for d (length out)) (words (map (oriented_of k) (take d.angles.count d.angles.all))) out
