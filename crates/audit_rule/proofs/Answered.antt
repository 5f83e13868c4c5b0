-- The answer behind the checks of the form, by the standing after the walk: what the entry goes by. Assumes nothing.
use Prim.Native.Nat.{ℕ}
use mathlib.Core.Path.{◌≡◌, refl, sym, ap, ◌∙◌}
use mathlib.Core.Bool.{Bool, true, false, cond, not}
use mathlib.Core.List.{List, [], ◌∷◌, map, foldl}
use lib.ListN.{length, drop, length-map}
use lib.Ieee.{Float}
use Rattle.params.specs.Table.{line, first_fault, all_good}
use Rattle.params.specs.Answers.{on_fault}
use Rattle.params.specs.declared.Settings.{Settings}
use Rattle.picture.specs.declared.Shape.{Shape}
use Rattle.picture.specs.declared.Size.{Size}
use Rattle.sheet.specs.Layout.{Layout, Frame, header_size, record_size}
use Rattle.sheet.specs.Sheet.{parts, all_pass, read_count, read_sheet, bytes_right}
use Rattle.sheet.specs.Writes.{frame_of}
use Rattle.sheet.specs.Reads.{layout_in}
use Rattle.sheet.proofs.Parts.{length_parts}
use Rattle.road.specs.Road.{Octave, octave_records}
use Rattle.audit_compare.specs.Difference.{fields_of, of_octave}
use Rattle.audit_compare.specs.Standing.{start, refused, compared, stated_in, Standing}
use Rattle.audit_walk.specs.Walk.{passed, octave_found}
use Rattle.audit_rule.specs.Entry.{octave_of, keypoints_in, all_of, read_good, planes_fault, sheet_fault, unless}
use Rattle.audit_verdict.specs.Verdict.{records_verdict, header_difference, sheet_verdict, Checked, Refused, Header}
use Rattle.audit_rule.specs.Fine.{Fine}
use Rattle.audit_verdict.specs.Told.{told_by}
use Rattle.audit_rule.specs.Left.{answer_left}
use Rattle.audit_rule.proofs.Folds.{all_good_lem}
use Rattle.audit_rule.proofs.Walked.{walked}
use Rattle.audit_rule.proofs.Told.{told}
use Rattle.audit_rule.proofs.Stated.{stated_fields}

-- ---- the lines, one by one

planes_line : (a b : Bool) (x : Checked) → a ≡ true → unless (first_fault (line 6 (not a) ∷ line 6 (not b) ∷ [])) x ≡ cond b x (Refused 6)
unfolding first_fault
planes_line a true x e = rw e
planes_line a false x e = rw e

sheet_line : (a b : Bool) (x : Checked) → a ≡ true → unless (first_fault (line 8 (not a) ∷ line 5 (not b) ∷ [])) x ≡ cond b x (Refused 5)
unfolding first_fault
sheet_line a true x e = rw e
sheet_line a false x e = rw e

sheet_none : (a b : Bool) (x : Checked) → a ≡ false → unless (first_fault (line 8 (not a) ∷ line 5 (not b) ∷ [])) x ≡ Refused 8
unfolding first_fault
sheet_none a b x e = rw e

-- ---- the standing

module _ (dog gauss : List Float) (t : Shape) (octave : ℕ) (s : Settings) (base : Size) (f : Fine (length dog) (length gauss) t octave s base) (good : all_good dog ≡ true) (bs : List ℕ) where
  abbrev q : Octave
  q = octave_of dog gauss t octave

  abbrev frame : Frame
  frame = frame_of base.width base.height s.layers

  abbrev fine : Bool
  fine = all_of (read_good q) (keypoints_in s q)

  -- the standing after the walk, whatever it is compared with
  abbrev pub stands : Layout → List (List ℕ) → Standing
  stands l stated = passed gauss (record { shape = t; octave = octave; layout = l; stated = stated }) start (octave_found dog t octave s)

  stands_good : (l : Layout) (stated : List (List ℕ)) → (stands l stated).good ≡ fine
  stands_good l stated = ap (λ (st : Standing). st.good) (walked dog gauss t octave s base f good l stated) ∙ either fine
    where
      either : (b : Bool) → (cond b (foldl (compared l stated) start (octave_records s q)) refused).good ≡ b
      either true = all_good_lem l stated (octave_records s q) start refl
      either false = refl

  -- ---- the answer

  after_planes : (x : Checked) → unless (planes_fault s q) x ≡ cond fine x (Refused 6)
  unfolding planes_fault
  after_planes x = planes_line (all_good dog) fine x good

  -- of bytes that break a rule
  unsound_left : bytes_right (layout_in bs) bs ≡ false → (l : Layout) (stated : List (List ℕ))
      → answer_left dog gauss t octave s base bs ≡ cond (stands l stated).good (Refused 8) (Refused 6)
  unfolding answer_left sheet_fault
  unsound_left h l stated =
      after_planes _
      ∙ ap (λ (x : Checked). cond fine x (Refused 6)) (sheet_none (bytes_right (layout_in bs) bs) (all_pass (of_octave octave) (read_sheet (layout_in bs) bs).records) (sheet_verdict (layout_in bs) frame (octave_records s q) bs) h)
      ∙ ap (λ (b : Bool). cond {A = Checked} b (Refused 8) (Refused 6)) (sym (stands_good l stated))

  module _ (h : bytes_right (layout_in bs) bs ≡ false) (l : Layout) (stated : List (List ℕ)) (x : Standing) (after : x ≡ stands l stated) where
    by_standing : answer_left dog gauss t octave s base bs ≡ cond x.good (Refused 8) (Refused 6)
    by_standing = unsound_left h l stated ∙ ap (λ (a : Standing). cond {A = Checked} a.good (Refused 8) (Refused 6)) (sym after)

    pub says_8 : x.good ≡ true → Refused 8 ≡ answer_left dog gauss t octave s base bs
    says_8 e = sym (by_standing ∙ ap (λ (b : Bool). cond {A = Checked} b (Refused 8) (Refused 6)) e)

    pub says_six : x.good ≡ false → Refused 6 ≡ answer_left dog gauss t octave s base bs
    says_six e = sym (by_standing ∙ ap (λ (b : Bool). cond {A = Checked} b (Refused 8) (Refused 6)) e)

  -- of a sheet
  module _ (h : bytes_right (layout_in bs) bs ≡ true) where
    abbrev l : Layout
    l = layout_in bs

    abbrev n : ℕ
    n = read_count l bs

    abbrev stated : List (List ℕ)
    stated = stated_in l n (drop header_size bs)

    abbrev st : Standing
    st = stands l stated

    abbrev d : ℕ
    d = header_difference l frame bs

    counted : length stated ≡ n
    counted = length-map (parts (record_size l) n (drop header_size bs)) _ ∙ length_parts (record_size l) n (drop header_size bs)

    records_told : fine ≡ true → told_by n st ≡ records_verdict 0 (map (fields_of l) (octave_records s q)) (read_sheet l bs).records
    records_told e =
        ap (told_by n) (walked dog gauss t octave s base f good l stated ∙ ap (λ (b : Bool). cond b (foldl (compared l stated) start (octave_records s q)) refused) e)
        ∙ ap (λ (k : ℕ). told_by k (foldl (compared l stated) start (octave_records s q))) (sym counted)
        ∙ told l (octave_records s q) stated
        ∙ ap (records_verdict 0 (map (fields_of l) (octave_records s q))) (stated_fields bs h)

    pub sound_left : answer_left dog gauss t octave s base bs
        ≡ cond st.good (cond (all_pass (of_octave octave) stated) (on_fault d (told_by n st) (Header d)) (Refused 5)) (Refused 6)
    unfolding answer_left sheet_fault sheet_verdict
    sound_left =
        after_planes _
        ∙ either fine refl
        ∙ ap (λ (b : Bool). cond b (cond (all_pass (of_octave octave) stated) (on_fault d (told_by n st) (Header d)) (Refused 5)) (Refused 6)) (sym (stands_good l stated))
      where
        either : (b : Bool) → fine ≡ b
            → cond b (unless (sheet_fault octave bs) (sheet_verdict l frame (octave_records s q) bs)) (Refused 6)
            ≡ cond b (cond (all_pass (of_octave octave) stated) (on_fault d (told_by n st) (Header d)) (Refused 5)) (Refused 6)
        either true e =
            sheet_line (bytes_right l bs) (all_pass (of_octave octave) (read_sheet l bs).records) (sheet_verdict l frame (octave_records s q) bs) h
            ∙ ap (λ (x : Checked). cond (all_pass (of_octave octave) (read_sheet l bs).records) (on_fault d x (Header d)) (Refused 5)) (sym (records_told e))
            ∙ ap (λ (rs : List (List ℕ)). cond (all_pass (of_octave octave) rs) (on_fault d (told_by n st) (Header d)) (Refused 5)) (sym (stated_fields bs h))
        either false e = refl
