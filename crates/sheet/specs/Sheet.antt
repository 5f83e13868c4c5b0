-- A sheet: the rules that it keeps, its bytes, and what bytes say. Definitions only.
use Rattle.std.specs.Prelude.{Bool, true, ◌&&◌, ◌||◌, ℕ, zero, suc, ◌+◌, ◌*◌, leb, eqb, length, get_or, take, drop}
use mathlib.Core.List.{List, [], ◌∷◌, ◌++◌, map, flat_map}
use Rattle.sheet.specs.Pack.{pack, unpack, sound}
use Rattle.sheet.specs.Layout.{Layout, Frame, header_size, header_slots, header_values, record_size, record_slots}
use Rattle.sheet.specs.Words.{head_words, front_fields, all_zero}

-- n parts of a list, each k long
unfoldable pub parts : ℕ → ℕ → List ℕ → List (List ℕ)
parts k zero xs = []
parts k (suc n) xs = take k xs ∷ parts k n (drop k xs)

-- each of some lists passes a test
unfoldable pub all_pass : (List ℕ → Bool) → List (List ℕ) → Bool
all_pass test [] = true
all_pass test (x ∷ xs) = test x && all_pass test xs

-- a sheet: its frame, and its records, each the values of its slots
pub record Sheet : Type 0 where
  pub frame : Frame
  pub records : List (List ℕ)

-- a record that is blank has no value but 0
abbrev pub blank_right : List ℕ → Bool
blank_right v = eqb (get_or v head_words 0) 0 || all_zero (drop front_fields v)

-- the rules of a record
unfoldable pub record_right : Layout → Frame → List ℕ → Bool
record_right l f v = sound (record_slots l f) v && blank_right v

-- the rules of a sheet
unfoldable pub sheet_right : Layout → Sheet → Bool
sheet_right l s =
    leb 1 s.frame.width && leb 1 s.frame.height
    && sound (header_slots l) (header_values l s.frame (length s.records))
    && all_pass (record_right l s.frame) s.records

-- the bytes of a sheet: the header's, then each record's
unfoldable pub sheet_bytes : Layout → Sheet → List ℕ
sheet_bytes l s =
    pack (header_slots l) (header_values l s.frame (length s.records))
    ++ flat_map (pack (record_slots l s.frame)) s.records

-- what bytes say: the header's values, and of them the frame and the count
unfoldable pub header_in : Layout → List ℕ → List ℕ
header_in l bs = unpack (header_slots l) (take header_size bs)

unfoldable pub read_frame : Layout → List ℕ → Frame
read_frame l bs =
    let h = header_in l bs in
    record { width = get_or h 1 0 + 1; height = get_or h 2 0 + 1; layers = get_or h 3 0; rule = get_or h 5 0 }

unfoldable pub read_count : Layout → List ℕ → ℕ
read_count l bs = get_or (header_in l bs) 4 0

-- the bytes of the records that the header counts
unfoldable pub records_in : Layout → List ℕ → List (List ℕ)
records_in l bs = parts (record_size l) (read_count l bs) (drop header_size bs)

unfoldable pub read_sheet : Layout → List ℕ → Sheet
read_sheet l bs = record { frame = read_frame l bs; records = map (unpack (record_slots l (read_frame l bs))) (records_in l bs) }

-- bytes keep the rules: a whole header that does, the length that it states (rule S6), and records that do
unfoldable pub bytes_right : Layout → List ℕ → Bool
bytes_right l bs =
    leb header_size (length bs)
    && sound (header_slots l) (header_in l bs)
    && eqb (length bs) (header_size + record_size l * read_count l bs)
    && all_pass (record_right l (read_frame l bs)) (read_sheet l bs).records
