-- The sheet's header and records, field by field: rules S2, S3 and S5. Definitions only.
use Rattle.std.specs.Prelude.{Bool, true, false, cond, List, [], ◌∷◌, ◌++◌, ℕ, ◌+◌, ◌-◌, ◌*◌, ◌^◌, eqb, replicate}
use Rattle.params.specs.Limits.{max_layers, max_octave, value_count}
use Rattle.sheet.specs.Pack.{Slot, slot}

-- What an edition fixes. A field that an edition leaves out keeps its slot, which then has no bits and no value but 0.
pub record Layout : Type 0 where
  pub edition : ℕ  -- the number that its header starts with
  pub side : ℕ  -- the bits of width − 1 and height − 1, and of row and column
  pub marked : Bool  -- the header has a rule bit, and each record a blank bit
  pub angled : Bool  -- each record has an angle

-- the editions: the first, and that whose records say whether they are blank
abbrev pub edition1 : Layout
edition1 = record { edition = 1; side = 13; marked = false; angled = true }

abbrev pub edition2 : Layout
edition2 = record { edition = 2; side = 13; marked = true; angled = true }

-- the layout of an edition's number. A number that is no edition's has that of edition 1, which does not state it.
unfoldable pub layout_of : ℕ → Layout
layout_of n = cond (eqb n 2) edition2 edition1

-- a number is an edition's
unfoldable pub known : ℕ → Bool
known n = eqb (layout_of n).edition n

-- what a sheet's header says of its frame: width, height, layers, and the rule less 1 (0 where it has no rule bit)
pub record Frame : Type 0 where
  pub width : ℕ
  pub height : ℕ
  pub layers : ℕ
  pub rule : ℕ

-- the header's bytes, and the largest count
abbrev pub header_size : ℕ
header_size = 8

abbrev pub max_count : ℕ
max_count = 1_048_575

abbrev pub mark_bits : Layout → ℕ
mark_bits l = cond l.marked 1 0

-- the largest that a rule bit says: there is one rule
abbrev pub top_rule : Layout → ℕ
top_rule l = 0

-- Rule S2: edition, width less 1, height less 1, layers, count, and spare bits that are 0 and fill the 64.
-- The first of the spare bits is the rule bit of a layout that is marked.
abbrev pub header_slots : Layout → List Slot
header_slots l =
    slot 4 l.edition l.edition ∷
    slot l.side 0 (2 ^ l.side - 1) ∷
    slot l.side 0 (2 ^ l.side - 1) ∷
    slot 4 1 max_layers ∷
    slot 20 0 max_count ∷
    slot (mark_bits l) 0 (top_rule l) ∷
    slot (36 - (2 * l.side + mark_bits l)) 0 0 ∷ []

abbrev pub header_values : Layout → Frame → ℕ → List ℕ
header_values l f count = l.edition ∷ (f.width - 1) ∷ (f.height - 1) ∷ f.layers ∷ count ∷ f.rule ∷ 0 ∷ []

-- the bytes of a record, 4 fewer where it has no angle (rule S1)
abbrev pub record_size : Layout → ℕ
record_size l = cond l.angled 154 150

-- of these the bytes of its whole numbers, and those before its 128 values
abbrev pub head_size : ℕ
head_size = 6

abbrev pub front_size : Layout → ℕ
front_size l = record_size l - value_count

-- Rule S3, the whole numbers: row and column inside the frame, octave, layer up to the header's, code, and spare bits that are 0 and fill the 48.
-- The first of the spare bits is the blank bit of a layout that is marked.
abbrev pub head_slots : Layout → Frame → List Slot
head_slots l f =
    slot l.side 0 (f.height - 1) ∷
    slot l.side 0 (f.width - 1) ∷
    slot 4 0 max_octave ∷
    slot 4 1 f.layers ∷
    slot 8 0 255 ∷
    slot (mark_bits l) 0 (mark_bits l) ∷
    slot (32 - (2 * l.side + mark_bits l)) 0 0 ∷ []

-- as bits of an f32 whose sign bit is clear: the largest that is finite, the least above 0, and the largest below 360
abbrev pub largest_finite : ℕ
largest_finite = 0x7f7f_ffff

abbrev pub least_positive : ℕ
least_positive = 1

abbrev pub largest_angle : ℕ
largest_angle = 0x43b3_ffff

-- rules S3 and S5, the floats by their bits: x, y, size, response and angle
abbrev pub float_slots : Layout → List Slot
float_slots l =
    slot 32 0 largest_finite ∷
    slot 32 0 largest_finite ∷
    slot 32 least_positive largest_finite ∷
    slot 32 0 largest_finite ∷
    slot (cond l.angled 32 0) 0 (cond l.angled largest_angle 0) ∷ []

-- rule S3, the values: a byte each
abbrev pub value_slots : List Slot
value_slots = replicate value_count (slot 8 0 255)

unfoldable pub record_slots : Layout → Frame → List Slot
record_slots l f = head_slots l f ++ (float_slots l ++ value_slots)
