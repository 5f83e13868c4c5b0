-- A sheet's records and the rules' have all their fields; and where a record of an octave comes from. Assumes nothing.
use Prim.Native.Nat.{ℕ, suc, ◌+◌, ◌-◌, ◌≤◌}
use native.Mathlib.Nat.{le_trans, le_of_eq}
use native.Mathlib.Omega.{arith}
use mathlib.Core.Path.{◌≡◌, refl, sym, ap, ◌∙◌}
use mathlib.Core.Bool.{true}
use mathlib.Core.List.{List, [], ◌∷◌, map}
use borrow.Author.Tests.{eqb-true, eq-eqb}
use lib.ListN.{length, take, drop, length-append, length-map, length-drop}
use lib.Seq.{length-take-le}
use lib.Ieee.{Float}
use Rattle.ieee.specs.F32.{bits_of}
use Rattle.params.specs.Limits.{value_count}
use Rattle.params.specs.declared.Settings.{Settings}
use Rattle.picture.specs.declared.Size.{Size}
use Rattle.detect_keypoint.specs.declared.RawKeypoint.{RawKeypoint}
use Rattle.orient_words.specs.declared.OrientedKeypoint.{OrientedKeypoint}
use Rattle.descriptor_words.specs.Words.{values_at, words_at}
use Rattle.picture.specs.declared.Spot.{Spot}
use Rattle.descriptor_laws.proofs.ValuesRules.{value_rule}
use Rattle.record.specs.Record.{byte_of, blank_of, record_of}
use Rattle.sheet.specs.Pack.{Slot, fields, unpack, value}
use Rattle.sheet.specs.Layout.{Layout, Frame, record_slots}
use Rattle.sheet.specs.Sheet.{all_pass, read_frame, records_in, read_sheet}
use Rattle.sheet.specs.Words.{plain_words, read_words, head_words, taken_words, filled}
use Rattle.sheet.proofs.Parts.{pass_map, pass_both, pass_all}
use Rattle.sheet.proofs.Words.{field_count}
use Rattle.sheet.proofs.Return.{taken_plain, taken_read}
use Rattle.road.specs.Road as Road
use Rattle.road.specs.Road.{Among, Octave, found_in, directions_of, picture_for, record_for, records_for, octave_records}
use Rattle.road.proofs.Members.{from_flat, from_map, from_joined}
use Rattle.road.proofs.Members as Members
use Rattle.road.proofs.Writer.{whole}
use Rattle.audit_compare.specs.Difference.{fields_of}
use Rattle.audit_rule.proofs.Differences.{row}

fields_long : (ss : List Slot) (n : ℕ) → length (fields ss n) ≡ length ss
unfolding fields
fields_long [] n = refl
fields_long (s ∷ ss) n = ap suc (fields_long ss _)

stated_row : (l : Layout) (f : Frame) (b : List ℕ) → row (unpack (record_slots l f) b) ≡ true
unfolding unpack record_slots
stated_row l f b = eq-eqb _ field_count (fields_long (record_slots l f) (value b))

pub stated_rows : (l : Layout) (bs : List ℕ) → all_pass row (read_sheet l bs).records ≡ true
unfolding read_sheet
stated_rows l bs =
    pass_map row (unpack (record_slots l (read_frame l bs))) (records_in l bs)
    ∙ pass_both (λ _. true) (λ b. row (unpack (record_slots l (read_frame l bs)) b)) (λ b _. stated_row l (read_frame l bs) b) (records_in l bs) (pass_all (records_in l bs))

filled_long : (w : List ℕ) → plain_words ≤ length w → length (filled w) ≡ field_count
unfolding filled
filled_long w h =
    let n = length-take-le head_words w (omega arith) in
    let m = length-take-le (plain_words - head_words) (drop head_words w) (rw length-drop (omega arith)) in
    rw (length-append, n, m)

given_row : (l : Layout) (r : List ℕ) → whole r ≡ true → row (fields_of l r) ≡ true
given_row l r e =
    let n = eqb-true (length r) read_words e in
    let m = length-take-le (taken_words l) r (le_trans (taken_read l.marked) (le_of_eq (sym n))) in
    eq-eqb (length (fields_of l r)) field_count (filled_long (take (taken_words l) r) (le_trans (taken_plain l.marked) (le_of_eq (sym m))))

values_long : (img : List Float) (size : Size) (p : Spot) → length (words_at img size p) ≡ value_count
unfolding words_at values_at
values_long img size p = length-map (values_at img size p) bits_of ∙ value_rule.count _

record_long : (k : RawKeypoint) (o : OrientedKeypoint) (values : List ℕ) (samples : ℕ) → length values ≡ value_count → length (record_of k o values samples) ≡ read_words
unfolding record_of
record_long k o values samples n = omega (arith, length-append (map byte_of values) (blank_of samples ∷ []), length-map values byte_of)

-- where a record of an octave comes from
pub record Origin (s : Settings) (q : Octave) (r : List ℕ) : Type 0 where
  pub layer : ℕ
  pub from : 1 ≤ layer
  pub to : layer ≤ s.layers
  pub keypoint : RawKeypoint
  pub found : Among keypoint (found_in s q layer)
  pub direction : OrientedKeypoint
  pub is : r ≡ record_for q keypoint direction

pub origin : (s : Settings) (q : Octave) (r : List ℕ) → Among r (octave_records s q) → Origin s q r
unfolding octave_records Road.records_in records_for
origin s q r m =
    let p = from_joined 1 (s.layers + 1) (Road.records_in s q) r m in
    let f = from_flat (records_for q) (found_in s q p.step) r p.inside in
    let d = from_map (record_for q f.source) (directions_of (picture_for q f.source) q f.source) r f.inside in
    record { layer = p.step; from = p.from; to = omega (arith, p.below); keypoint = f.source; found = f.among; direction = d.source; is = d.is }

pub whole_in : (s : Settings) (q : Octave) (r : List ℕ) → Among r (octave_records s q) → whole r ≡ true
whole_in s q r m = let d = origin s q r m in eq-eqb (length r) read_words (ap length d.is ∙ record_long d.keypoint d.direction _ _ (values_long _ _ _))

pub all_whole : (s : Settings) (q : Octave) → all_pass whole (octave_records s q) ≡ true
all_whole s q = Members.pass_all whole (octave_records s q) (whole_in s q)

pub given_rows : (l : Layout) (s : Settings) (q : Octave) → all_pass row (map (fields_of l) (octave_records s q)) ≡ true
given_rows l s q = pass_map row (fields_of l) (octave_records s q) ∙ pass_both whole (λ r. row (fields_of l r)) (given_row l) (octave_records s q) (all_whole s q)
