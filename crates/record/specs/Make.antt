-- What the maker of records refuses, answers and leaves in the lent words. Definitions only.
use Rattle.std.specs.Prelude.{ℕ, Bool, cond, not, ◌&&◌, ◌||◌, List, [], ◌∷◌, length, ◌==◌, is_nan}
use Rattle.ieee.specs.F32.{bits_of}
use Rattle.params.specs.Limits.{max_side, max_layers, value_count}
use Rattle.params.specs.Table.{line, first_fault}
use Rattle.params.specs.Answers.{on_fault}
use Rattle.detect_keypoint.specs.declared.RawKeypoint.{RawKeypoint}
use Rattle.orient_words.specs.declared.OrientedKeypoint.{OrientedKeypoint}
use Rattle.sheet.specs.Layout.{Frame, edition2}
use Rattle.sheet.specs.Words.{read_words}
use Rattle.sheet.specs.Writes.{frame_of, words_right}
use Rattle.record.specs.Record.{record_of}

-- the oriented keypoint is of the raw one: octave word, x, y, size and response are the same, by their bits
unfoldable pub alike : RawKeypoint → OrientedKeypoint → Bool
alike k o =
    (k.octave == o.octave)
    && (bits_of k.x == bits_of o.x
    && (bits_of k.y == bits_of o.y
    && (bits_of k.size == bits_of o.size
    && bits_of k.response == bits_of o.response)))

-- the largest frame of a sheet: a record that keeps its rules keeps all that need no frame
abbrev pub widest : Frame
widest = frame_of max_side max_side max_layers

-- 5: the keypoints are not whole or hold a not-a-number, or differ; the values are not 128; or the record breaks a rule of edition 2. Words that are not whole stand for a
-- keypoint of not-a-numbers; the record's floats are finite by the rules, the keypoint's are the same, and so only its xi is asked.
unfoldable pub record_wrong : RawKeypoint → OrientedKeypoint → List ℕ → ℕ → Bool
record_wrong k o values samples =
    is_nan k.xi
    || (not (alike k o) || (not (length values == value_count) || not (words_right edition2 widest (record_of k o values samples))))

unfoldable pub make_fault : RawKeypoint → OrientedKeypoint → List ℕ → ℕ → ℕ
make_fault k o values samples = first_fault (line 5 (record_wrong k o values samples) ∷ [])

-- the number: then 7 where not so many words are lent as a record has
unfoldable pub make_number : RawKeypoint → OrientedKeypoint → List ℕ → ℕ → ℕ → ℕ
make_number k o values samples room = on_fault (make_fault k o values samples) (cond (room == read_words) 0 7) (make_fault k o values samples)

-- the lent words afterwards: the record's, or on any refusal what stood there
unfoldable pub make_left : RawKeypoint → OrientedKeypoint → List ℕ → ℕ → List ℕ → List ℕ
make_left k o values samples out = on_fault (make_number k o values samples (length out)) (record_of k o values samples) out
