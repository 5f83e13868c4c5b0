-- What the reader refuses, answers and leaves in the lent words. Definitions only.
use Rattle.std.specs.Prelude.{not, ℕ, ◌*◌, ◌/◌, ◌^◌, length, take, Result, Ok, Err}
use mathlib.Core.List.{List, [], ◌∷◌, flat_map}
use Rattle.params.specs.Table.{line, first_fault}
use Rattle.params.specs.Answers.{Answer, Done, Short, Refused, answer_of, landed, refused}
use Rattle.params.specs.declared.Refusal.{Refusal}
use Rattle.sheet.specs.Pack.{value}
use Rattle.sheet.specs.Layout.{Layout, Frame, layout_of, header_size}
use Rattle.sheet.specs.Sheet.{read_frame, read_count, read_sheet, bytes_right}
use Rattle.sheet.specs.Words.{read_words, worded}
use Rattle.sheet.specs.declared.Heading.{Heading}

-- What the reader answers: the number and the count of records, and the sheet's edition, width, height and layers, each 0 where the number is not 0.
pub record Read : Type 0 where
  pub answer : Answer
  pub edition : ℕ
  pub width : ℕ
  pub height : ℕ
  pub layers : ℕ

-- that of a result of the code: no two are told alike
abbrev pub read_told : Result Heading Refusal → Read
read_told (Ok h) = record { answer = Done h.count; edition = h.edition; width = h.width; height = h.height; layers = h.layers }
read_told (Err r) = record { answer = refused r; edition = 0; width = 0; height = 0; layers = 0 }

-- 8, rule S10: a rule of the sheet is broken
unfoldable pub read_fault : Layout → List ℕ → ℕ
read_fault l bs = first_fault (line 8 (not (bytes_right l bs)) ∷ [])

-- the words of the records
unfoldable pub words_in : Layout → List ℕ → List ℕ
words_in l bs = flat_map (worded l) (read_sheet l bs).records

-- the answer's number and count, at `room` words lent: 8 before 7 (rule S10), and both 0 and 7 count records
unfoldable pub read_number : Layout → List ℕ → ℕ → Answer
read_number l bs room = answer_of (read_fault l bs) (read_count l bs) (read_words * read_count l bs) room

-- the edition that bytes state, in their first four bits, and its layout; that of a number which is no edition's states another, and so breaks a rule
unfoldable pub edition_in : List ℕ → ℕ
edition_in bs = value (take header_size bs) / 2 ^ 60

abbrev pub layout_in : List ℕ → Layout
layout_in bs = layout_of (edition_in bs)

-- with the number and the count, edition, width, height and layers: those of the header, and 0 beside every other number than 0
abbrev pub with_frame : Answer → ℕ → Frame → Read
with_frame (Done n) edition f = record { answer = Done n; edition = edition; width = f.width; height = f.height; layers = f.layers }
with_frame (Short n) edition f = record { answer = Short n; edition = 0; width = 0; height = 0; layers = 0 }
with_frame (Refused k) edition f = record { answer = Refused k; edition = 0; width = 0; height = 0; layers = 0 }

unfoldable pub read_answer : List ℕ → ℕ → Read
read_answer bs room = with_frame (read_number (layout_in bs) bs room) (edition_in bs) (read_frame (layout_in bs) bs)

-- the lent words afterwards
unfoldable pub read_out : List ℕ → List ℕ → List ℕ
read_out bs out = landed (read_number (layout_in bs) bs (length out)) (words_in (layout_in bs) bs) out
