-- What the writer refuses, answers and leaves in the lent bytes. Definitions only.
use Rattle.std.specs.Prelude.{Bool, true, ◌&&◌, ◌||◌, not, List, [], ◌∷◌, map, ℕ, ◌+◌, ◌*◌, ◌/◌, ◌%◌, ◌^◌, leb, ltb, eqb, length, get_or}
use Rattle.params.specs.Limits.{max_layers}
use Rattle.params.specs.Table.{line, first_fault, shape_wrong}
use Rattle.params.specs.Answers.{answer_of, landed, Answer}
use Rattle.sheet.specs.Layout.{Layout, Frame, layout_of, known, header_size, record_size, max_count}
use Rattle.sheet.specs.Sheet.{parts, all_pass, Sheet, record_right, sheet_bytes}
use Rattle.sheet.specs.Words.{taken_words, layer_place, filled}
use Rattle.sheet.specs.declared.Frame as declared

-- the frame of a sheet: its rule is the only one
abbrev pub frame_of : ℕ → ℕ → ℕ → Frame
frame_of width height layers = record { width = width; height = height; layers = layers; rule = 0 }

-- that of a frame of the code
abbrev pub frame_for : declared.Frame → Frame
frame_for f = frame_of f.width f.height f.layers

-- the whole records among the words, and how many
abbrev pub count_in : Layout → List ℕ → ℕ
count_in l ws = length ws / taken_words l

unfoldable pub records_of : Layout → List ℕ → List (List ℕ)
records_of l ws = parts (taken_words l) (count_in l ws) ws

unfoldable pub sheet_of : Layout → Frame → List ℕ → Sheet
sheet_of l f ws = record { frame = f; records = map filled (records_of l ws) }

-- 1: width or height is 0 or above the limit, or above what the layout has bits for
unfoldable pub sides_wrong : Layout → Frame → Bool
sides_wrong l f = shape_wrong f.width f.height || (ltb (2 ^ l.side) f.width || ltb (2 ^ l.side) f.height)

-- 2, rule S9: the frame's layers are out of range, or those of a whole record
abbrev pub layers_wrong : Frame → Bool
layers_wrong f = eqb f.layers 0 || ltb max_layers f.layers

abbrev pub layer_right : ℕ → List ℕ → Bool
layer_right layers w = leb 1 (get_or w layer_place 0) && leb (get_or w layer_place 0) layers

abbrev pub records_layered : Layout → Frame → List ℕ → Bool
records_layered l f ws = all_pass (layer_right f.layers) (records_of l ws)

-- a record's words keep the rules
abbrev pub words_right : Layout → Frame → List ℕ → Bool
words_right l f w = record_right l f (filled w)

-- 5, rule S9: words that are no whole number of records, too many records, or one that breaks another rule
unfoldable pub words_wrong : Layout → Frame → List ℕ → Bool
words_wrong l f ws =
    not (eqb (length ws % taken_words l) 0)
    || (ltb max_count (count_in l ws) || not (all_pass (words_right l f) (records_of l ws)))

-- the number of the first fault, 0 for none; 4 where the layout was not asked for by an edition's number: its words can't be cut into records then, and none is tested before it
unfoldable pub fault_in : Bool → Layout → Frame → List ℕ → ℕ
fault_in asked l f ws =
    first_fault
    (line 1 (sides_wrong l f)
    ∷ line 2 (layers_wrong f || (asked && not (records_layered l f ws)))
    ∷ line 4 (not asked)
    ∷ line 5 (words_wrong l f ws)
    ∷ [])

-- in a layout, and of an edition by its number
abbrev pub layout_fault : Layout → Frame → List ℕ → ℕ
layout_fault l f ws = fault_in true l f ws

abbrev pub write_fault : ℕ → Frame → List ℕ → ℕ
write_fault edition f ws = fault_in (known edition) (layout_of edition) f ws

-- the bytes that the words make, and how many
unfoldable pub written : Layout → Frame → List ℕ → List ℕ
written l f ws = sheet_bytes l (sheet_of l f ws)

abbrev pub write_size : Layout → List ℕ → ℕ
write_size l ws = header_size + record_size l * count_in l ws

-- the answer of an edition, at `room` bytes lent: 0 and 7 count bytes
unfoldable pub write_answer : ℕ → Frame → List ℕ → ℕ → Answer
write_answer edition f ws room = answer_of (write_fault edition f ws) (write_size (layout_of edition) ws) (write_size (layout_of edition) ws) room

-- the lent bytes afterwards
unfoldable pub write_out : ℕ → Frame → List ℕ → List ℕ → List ℕ
write_out edition f ws out = landed (write_answer edition f ws (length out)) (written (layout_of edition) f ws) out
