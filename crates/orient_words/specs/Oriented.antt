-- An oriented keypoint and the words that it goes out as (rules O11 and A18), and the samples beside an answer (rule A16). Definitions only.
use Rattle.std.specs.Prelude.{ℕ, List, [], ◌∷◌, ◌++◌, Result, Ok, Err, Float}
use Rattle.ieee.specs.F32.{bits_of}
use Rattle.params.specs.Answers.{Answer, Done, Short, Refused, refused}
use Rattle.params.specs.declared.Refusal.{Refusal}
use Rattle.detect_keypoint.specs.declared.RawKeypoint.{RawKeypoint}
use Rattle.orient_words.specs.declared.OrientedKeypoint.{OrientedKeypoint}
use Rattle.orient_words.specs.declared.Oriented.{Oriented}

-- the keypoint with an angle: all else passes through
abbrev pub oriented_of : RawKeypoint → Float → OrientedKeypoint
oriented_of k angle =
    record { x = k.x; y = k.y; size = k.size; response = k.response; octave = k.octave; angle = angle }

-- an oriented keypoint goes out as so many words: rule A18
abbrev pub oriented_words : ℕ
oriented_words = 6

abbrev pub words_of : OrientedKeypoint → List ℕ
words_of o = bits_of o.x ∷ bits_of o.y ∷ bits_of o.size ∷ bits_of o.response ∷ o.octave ∷ bits_of o.angle ∷ []

unfoldable pub words : List OrientedKeypoint → List ℕ
words [] = []
words (o ∷ os) = words_of o ++ words os

-- the number and the count, and beside them the number of cells read
pub record OrientAnswer : Type 0 where
  pub answer : Answer
  pub samples : ℕ

-- the number of samples beside an answer: the cells read, and 0 on any refusal
abbrev pub samples_with : Answer → ℕ → ℕ
samples_with (Done n) read = read
samples_with (Short n) read = 0
samples_with (Refused k) read = 0

abbrev pub answered_with : Answer → ℕ → OrientAnswer
answered_with a read = record { answer = a; samples = samples_with a read }

-- the answer that the keypoints written and their samples are, or a refusal; no two results are told alike
abbrev pub oriented_told : Result Oriented Refusal → OrientAnswer
oriented_told (Ok o) = record { answer = Done o.count; samples = o.samples }
oriented_told (Err r) = record { answer = refused r; samples = 0 }
