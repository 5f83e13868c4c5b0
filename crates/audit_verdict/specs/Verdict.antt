-- The verdict on a sheet: the first difference between it and the records that the rules give, and an answer in numbers (rules C4, C6 and C7). Definitions only.
use Rattle.std.specs.Prelude.{ℕ, suc, List, [], ◌∷◌, map, Result, Ok, Err}
use Rattle.params.specs.Answers.{on_fault, refusal_number}
use Rattle.sheet.specs.Layout.{Layout, Frame, header_values}
use Rattle.sheet.specs.Sheet.{header_in, read_count, read_sheet}
use Rattle.audit_compare.specs.Difference.{first_difference, fields_of}
use Rattle.params.specs.declared.Refusal.{Refusal}
use Rattle.audit_verdict.specs.declared.Verdict.{Verdict}
use Rattle.audit_verdict.specs.declared.Verdict.TheVariants as verdict

-- What the checker answers: refused, by its number; the sheet is the rules' own; the header differs in a field; a record differs in a field; records are missing from one on;
-- or are left over from one on.
pub data Checked : Type 0 where
  Refused : ℕ → Checked
  Accepted : Checked
  Header : ℕ → Checked
  Differs : ℕ → ℕ → Checked
  Missing : ℕ → Checked
  LeftOver : ℕ → Checked

-- what a result of the code is
abbrev pub verdict_told : Result Verdict Refusal → Checked
verdict_told (Ok verdict.Accepted) = Accepted
verdict_told (Ok (verdict.Header f)) = Header f
verdict_told (Ok (verdict.Differs i f)) = Differs i f
verdict_told (Ok (verdict.Missing i)) = Missing i
verdict_told (Ok (verdict.LeftOver i)) = LeftOver i
verdict_told (Err r) = Refused (refusal_number r)

-- ---- the first difference

-- the first difference between records that the rules give and those of a sheet, by their fields; `at` is the number of the first
unfoldable pub records_verdict : ℕ → List (List ℕ) → List (List ℕ) → Checked
records_verdict at [] [] = Accepted
records_verdict at (r ∷ rs) [] = Missing at
records_verdict at [] (b ∷ bs) = LeftOver at
records_verdict at (r ∷ rs) (b ∷ bs) = on_fault (first_difference r b) (records_verdict (suc at) rs bs) (Differs at (first_difference r b))

-- the field in which a header differs from that of a frame, but for the count, which is told by the records
abbrev pub header_difference : Layout → Frame → List ℕ → ℕ
header_difference l f bs = first_difference (header_values l f (read_count l bs)) (header_in l bs)

unfoldable pub sheet_verdict : Layout → Frame → List (List ℕ) → List ℕ → Checked
sheet_verdict l f rs bs =
    on_fault (header_difference l f bs) (records_verdict 0 (map (fields_of l) rs) (read_sheet l bs).records) (Header (header_difference l f bs))

-- ---- an answer in numbers

-- the refusal; the verdict; the record, counted from 0; and the field, counted from 1: each 0 where it has nothing to say (rule C4)
abbrev pub number_of : Checked → ℕ
number_of (Refused k) = k
number_of Accepted = 0
number_of (Header f) = 0
number_of (Differs i f) = 0
number_of (Missing i) = 0
number_of (LeftOver i) = 0

abbrev pub verdict_of : Checked → ℕ
verdict_of (Refused k) = 0
verdict_of Accepted = 0
verdict_of (Header f) = 1
verdict_of (Differs i f) = 2
verdict_of (Missing i) = 3
verdict_of (LeftOver i) = 4

abbrev pub place_of : Checked → ℕ
place_of (Refused k) = 0
place_of Accepted = 0
place_of (Header f) = 0
place_of (Differs i f) = i
place_of (Missing i) = i
place_of (LeftOver i) = i

abbrev pub field_of : Checked → ℕ
field_of (Refused k) = 0
field_of Accepted = 0
field_of (Header f) = f
field_of (Differs i f) = f
field_of (Missing i) = 0
field_of (LeftOver i) = 0
