-- Law: what is proved of the checker of a sheet. proofs/Rules.antt proves each. Definitions only.
use Rattle.std.specs.Prelude.{ℕ, ◌+◌, ◌-◌, ◌<◌, ◌≤◌, ◌≡◌, List, [], ◌++◌, map, length, get_or, take, drop, Float}
use Rattle.params.specs.declared.Settings.{Settings}
use Rattle.params.specs.Answers.{Done}
use Rattle.picture.specs.declared.Shape.{Shape}
use Rattle.picture.specs.declared.Size.{Size}
use Rattle.detect_keypoint.specs.declared.RawKeypoint.{RawKeypoint}
use Rattle.orient_words.specs.declared.OrientedKeypoint.{OrientedKeypoint}
use Rattle.sheet.specs.Pack.{Bytes}
use Rattle.sheet.specs.Layout.{header_values}
use Rattle.sheet.specs.Sheet.{header_in, read_count, read_sheet}
use Rattle.sheet.specs.Writes.{frame_of, write_answer, write_out}
use Rattle.sheet.specs.Reads.{edition_in, layout_in}
use Rattle.road.specs.Road.{Among, Octave, picture_for, directions_of, record_for, octave_records}
use Rattle.road.specs.Back.{handed_over}
use Rattle.road.specs.Rules.{Through, Making}
use Rattle.audit_compare.specs.Difference.{fields_of}
use Rattle.audit_rule.specs.Entry.{octave_of, keypoints_in, form_fault, planes_fault, check_answer}
use Rattle.audit_verdict.specs.Verdict.{Checked, Accepted, Header, Differs, Missing, LeftOver}

-- two lists of fields agree before the place f, counted from 1, and differ there
pub record FirstAt (f : ℕ) (xs ys : List ℕ) : Type 0 where
  pub from : 1 ≤ f
  pub to : f ≤ length xs
  pub before : (i : ℕ) → i + 1 < f → get_or xs i 0 ≡ get_or ys i 0
  pub there : get_or xs (f - 1) 0 ≡ get_or ys (f - 1) 0 → ⊥

-- the arguments of a call
module _ (dog gauss : List Float) (t : Shape) (octave : ℕ) (s : Settings) (base : Size) where
  abbrev pub octave_here : Octave
  octave_here = octave_of dog gauss t octave

  -- the records that the rules give, as the writer of an edition takes them
  abbrev pub rules_words : ℕ → List ℕ
  rules_words edition = handed_over edition (octave_records s octave_here)

  -- no refusal before those of the sheet
  pub record Sound : Type 0 where
    pub form : form_fault (length dog) (length gauss) t octave s base ≡ 0
    pub planes : planes_fault s octave_here ≡ 0

  -- the bytes are those that the writer of an edition makes, in any room that is enough, of the rules' records in their order, on the frame named
  pub record Ours (edition : ℕ) (bs : List ℕ) : Type 0 where
    pub written : (out : List ℕ) → length bs ≤ length out
        → write_answer edition (frame_of base.width base.height s.layers) (rules_words edition) (length out) ≡ Done (length bs)
    pub bytes : (out : List ℕ) → length bs ≤ length out
        → write_out edition (frame_of base.width base.height s.layers) (rules_words edition) out ≡ bs ++ drop (length bs) out

  -- of a sheet: the fields of the records that the rules give, and of its own
  abbrev pub given : List ℕ → List (List ℕ)
  given bs = map (fields_of (layout_in bs)) (octave_records s octave_here)

  abbrev pub stated : List ℕ → List (List ℕ)
  stated bs = (read_sheet (layout_in bs) bs).records

  abbrev pub answer : List ℕ → Checked
  answer bs = check_answer dog gauss t octave s base bs

  -- the headers agree, but for the count; so do the first n records of both
  abbrev pub SameHeader : List ℕ → Type 0
  SameHeader bs = header_values (layout_in bs) (frame_of base.width base.height s.layers) (read_count (layout_in bs) bs) ≡ header_in (layout_in bs) bs

  abbrev pub SameTo : List ℕ → ℕ → Type 0
  SameTo bs n = take n (given bs) ≡ take n (stated bs)

  pub record Call : Type 0 where
    -- what is accepted are the bytes of the rules' own sheet, in the edition that they state
    pub accepted_ours : (bs : List ℕ) → Bytes bs → answer bs ≡ Accepted → Sound × Ours (edition_in bs) bs
    -- and the rules' own sheet is accepted, in every edition: whatever the writer wrote of all the records in their order
    pub ours_accepted : (edition : ℕ) (out : List ℕ) (n : ℕ) → Sound
        → write_answer edition (frame_of base.width base.height s.layers) (rules_words edition) (length out) ≡ Done n
        → answer (take n (write_out edition (frame_of base.width base.height s.layers) (rules_words edition) out)) ≡ Accepted
    -- the difference that is named is the first one: the header's field,
    pub first_header : (bs : List ℕ) (f : ℕ) → answer bs ≡ Header f
        → FirstAt f (header_values (layout_in bs) (frame_of base.width base.height s.layers) (read_count (layout_in bs) bs)) (header_in (layout_in bs) bs)
    -- a record's, where the header and all records before it agree,
    pub first_record : (bs : List ℕ) (i f : ℕ) → answer bs ≡ Differs i f
        → SameHeader bs × SameTo bs i × (i < length (given bs)) × (i < length (stated bs)) × FirstAt f (get_or (given bs) i []) (get_or (stated bs) i [])
    -- or the place where one of the two lists ends, all before it being equal
    pub first_missing : (bs : List ℕ) (i : ℕ) → answer bs ≡ Missing i → SameHeader bs × (stated bs ≡ take i (given bs)) × (i ≡ length (stated bs)) × (i < length (given bs))
    pub first_left : (bs : List ℕ) (i : ℕ) → answer bs ≡ LeftOver i → SameHeader bs × (given bs ≡ take i (stated bs)) × (i ≡ length (given bs)) × (i < length (stated bs))
    -- no stage refuses inside: of a keypoint whose cells are good, orientation and descriptor accept all, and of each direction the maker makes the record
    pub stages : Sound → (k : RawKeypoint) → Among k (keypoints_in s octave_here) → Through (picture_for octave_here k) octave_here k
    pub makes : Sound → (k : RawKeypoint) → Among k (keypoints_in s octave_here) → (o : OrientedKeypoint) → Among o (directions_of (picture_for octave_here k) octave_here k)
        → Making octave_here k o (record_for octave_here k o)

pub record AuditRule : Type 0 where
  pub call : (dog gauss : List Float) (t : Shape) (octave : ℕ) (s : Settings) (base : Size) → Call dog gauss t octave s base
