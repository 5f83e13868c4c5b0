-- Inner: how far the records that were made agree with those of a sheet; no part of a public contract. Definitions only.
use Rattle.std.specs.Prelude.{ℕ, ◌+◌, Bool, true, false, cond, Option, None, Some, Result, Ok, Err, List, [], map, eqb, ltb, length, get_or}
use Rattle.sheet.specs.Layout.{Layout, record_size}
use Rattle.sheet.specs.Sheet.{parts}
use Rattle.sheet_fields.specs.Fields.{bytes_words}
use Rattle.audit_compare.specs.Difference.{first_difference, fields_of}
use Rattle.audit_compare.specs.Numbered.{missing}
use Rattle.audit_compare.specs.declared.agreement.Difference.{Difference}
use Rattle.audit_compare.specs.declared.agreement.Difference.TheVariants.{Field, Missing}
use Rattle.audit_compare.specs.declared.agreement.Agreement.{Agreement}
use Rattle.audit_compare.specs.declared.agreement.Stopped.{Stopped}

-- How far the records made so far agree with those of a sheet: `place` of them, and no difference while `field` is 0; then the record `place` differs in `field`, or is missing.
-- `good` is whether no stage has refused, and the rest counts only while it is.
pub record Standing : Type 0 where
  pub place : ℕ
  pub field : ℕ
  pub good : Bool

-- the fields of the first n records of the bytes behind a header, by the words that the reader gives for each
abbrev pub stated_in : Layout → ℕ → List ℕ → List (List ℕ)
stated_in l n body = map (λ b. fields_of l (bytes_words l b)) (parts (record_size l) n body)

-- the number that a difference of the code has, 0 for none, and the standing that an agreement is, or the refusal of a stage
abbrev pub number_or_none : Option ℕ → ℕ
number_or_none None = 0
number_or_none (Some n) = n

abbrev pub field_of : Option Difference → ℕ
field_of None = 0
field_of (Some (Field n)) = n
field_of (Some Missing) = missing

abbrev pub standing_of : Agreement → Standing
standing_of a = record { place = a.place; field = field_of a.difference; good = true }

-- at the start, and where a stage refused
abbrev pub start : Standing
start = record { place = 0; field = 0; good = true }

abbrev pub refused : Standing
refused = record { place = 0; field = 0; good = false }

-- the field at which a record and the sheet's at a place first differ
unfoldable pub difference_at : Layout → List (List ℕ) → ℕ → List ℕ → ℕ
difference_at l stated i r = cond (ltb i (length stated)) (first_difference (fields_of l r) (get_or stated i [])) missing

-- after one more record: the first difference stays
abbrev pub moved : ℕ → ℕ → Standing
moved i d = cond (eqb d 0) (record { place = i + 1; field = 0; good = true }) (record { place = i; field = d; good = true })

unfoldable pub compared : Layout → List (List ℕ) → Standing → List ℕ → Standing
compared l stated st r = cond (eqb st.field 0) (moved st.place (difference_at l stated st.place r)) st

-- how far they agree, and whether a stage has refused; beside a refusal, what agreed until then
abbrev pub standing_in : Result Agreement Stopped → Standing
standing_in (Ok a) = standing_of a
standing_in (Err r) = record { place = r.agreement.place; field = field_of r.agreement.difference; good = false }

-- how far they agree, or that a stage refused
abbrev pub standing_told : Result Agreement Stopped → Standing
standing_told (Ok a) = standing_of a
standing_told (Err r) = refused
