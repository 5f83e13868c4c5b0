-- Law: Records on a sheet and back: what `write_sheet` is handed, and what it and `read_sheet` then answer and leave. Definitions only.
use Rattle.std.specs.Prelude.{ℕ, ◌+◌, ◌*◌, ◌≤◌, ◌≡◌, length, take, drop}
use mathlib.Core.List.{List, ◌++◌, flat_map}
use Rattle.params.specs.Limits.{max_side, max_layers}
use Rattle.params.specs.Answers.{Done}
use Rattle.sheet.specs.Layout.{layout_of, header_size, record_size}
use Rattle.sheet.specs.Words.{read_words, taken_words, with_blank}
use Rattle.sheet.specs.Writes.{write_fault, write_answer, write_out, frame_of}
use Rattle.sheet.specs.Reads.{read_answer, read_out}

-- a frame that a sheet takes
pub record Framed (wide high layers : ℕ) : Type 0 where
  pub across : (1 ≤ wide) × (wide ≤ max_side)
  pub down : (1 ≤ high) × (high ≤ max_side)
  pub deep : (1 ≤ layers) × (layers ≤ max_layers)

-- a record as the writer of an edition takes it, the words of all, and the bytes of their sheet
abbrev pub taken : ℕ → List ℕ → List ℕ
taken edition r = take (taken_words (layout_of edition)) r

abbrev pub handed_over : ℕ → List (List ℕ) → List ℕ
handed_over edition rs = flat_map (taken edition) rs

abbrev pub sheet_size : ℕ → List (List ℕ) → ℕ
sheet_size edition rs = header_size + record_size (layout_of edition) * length rs

-- the bytes that the writer leaves at the front of what is lent to it
abbrev pub sheet_in : ℕ → ℕ → ℕ → ℕ → List (List ℕ) → List ℕ → List ℕ
sheet_in edition wide high layers rs out = take (sheet_size edition rs) (write_out edition (frame_of wide high layers) (handed_over edition rs) out)

-- The records go on a sheet and come back: the writer refuses nothing of them; with room for the sheet it writes it; and the reader, handed these bytes
-- and room for the words, answers the edition, the frame and the count and gives each record with its added word.
pub record ReadsBack (edition wide high layers : ℕ) (rs : List (List ℕ)) : Type 0 where
  pub accepted : write_fault edition (frame_of wide high layers) (handed_over edition rs) ≡ 0
  pub written : (out : List ℕ) → sheet_size edition rs ≤ length out
      → write_answer edition (frame_of wide high layers) (handed_over edition rs) (length out) ≡ Done (sheet_size edition rs)
  pub answered : (out room : List ℕ) → sheet_size edition rs ≤ length out → read_words * length rs ≤ length room
      → read_answer (sheet_in edition wide high layers rs out) (length room)
      ≡ record { answer = Done (length rs); edition = edition; width = wide; height = high; layers = layers }
  pub given : (out room : List ℕ) → sheet_size edition rs ≤ length out → read_words * length rs ≤ length room
      → read_out (sheet_in edition wide high layers rs out) room ≡ flat_map (λ r. with_blank (layout_of edition) (taken edition r)) rs ++ drop (read_words * length rs) room
