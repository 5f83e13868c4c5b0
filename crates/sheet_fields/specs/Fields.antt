-- Inner: a header's fields, and a record's whole numbers and floats, as the values of their slots, and what has room there; and a frame for where only the widths of slots matter. Definitions only.
use Rattle.std.specs.Prelude.{Bool, List, [], ◌∷◌, ◌++◌, ℕ, ◌-◌, ◌^◌, ◌<◌, take, drop}
use Rattle.params.specs.Limits.{max_side, max_layers}
use Rattle.sheet.specs.Pack.{pack, unpack, Held}
use Rattle.sheet.specs.Layout.{Layout, Frame, header_slots, head_size, front_size, head_slots, float_slots, record_slots}
use Rattle.sheet.specs.Sheet.{record_right}
use Rattle.sheet.specs.Words.{head_words, filled, worded}
use Rattle.sheet.specs.Writes.{frame_of}
use Rattle.sheet_fields.specs.declared.Header.{Header}
use Rattle.sheet_fields.specs.declared.Head.{Head}
use Rattle.sheet_fields.specs.declared.Floats.{Floats}

abbrev pub header_list : Header → List ℕ
header_list h = h.edition ∷ h.width ∷ h.height ∷ h.layers ∷ h.count ∷ h.rule ∷ h.zero ∷ []

abbrev pub head_values : Head → List ℕ
head_values h = h.row ∷ h.column ∷ h.octave ∷ h.layer ∷ h.code ∷ h.blank ∷ h.zero ∷ []

abbrev pub float_values : Floats → List ℕ
float_values f = f.x ∷ f.y ∷ f.size ∷ f.response ∷ f.angle ∷ []

abbrev pub any_frame : Frame
any_frame = frame_of max_side max_side max_layers

-- each has room in its bits
abbrev pub HeaderFits : Layout → Header → Type 0
HeaderFits l h = Held (header_slots l) (header_list h)

abbrev pub HeadFits : Layout → Head → Type 0
HeadFits l h = Held (head_slots l any_frame) (head_values h)

pub record FloatsFit (f : Floats) : Type 0 where
  pub x : f.x < 2 ^ 32
  pub y : f.y < 2 ^ 32
  pub size : f.size < 2 ^ 32
  pub response : f.response < 2 ^ 32
  pub angle : f.angle < 2 ^ 32

-- a record's bytes, from its words
abbrev pub words_bytes : Layout → List ℕ → List ℕ
words_bytes l w = pack (record_slots l any_frame) (filled w)

-- a record's first ten words, all of them, from its bytes, and whether these keep the rules
abbrev pub bytes_front : Layout → List ℕ → List ℕ
bytes_front l bs = take head_words (unpack (head_slots l any_frame) (take head_size bs)) ++ unpack (float_slots l) (take (front_size l - head_size) (drop head_size bs))

abbrev pub bytes_words : Layout → List ℕ → List ℕ
bytes_words l bs = worded l (unpack (record_slots l any_frame) bs)

abbrev pub record_bytes_right : Layout → Frame → List ℕ → Bool
record_bytes_right l f bs = record_right l f (unpack (record_slots l f) bs)
