-- A sheet that keeps the rules as the code goes by it, by the edition and the header's fields that it found: the answer behind the checks of the form. Assumes nothing.
use Prim.Native.Nat.{ℕ, zero, suc, ◌-◌, ◌*◌, ◌≤◌}
use native.Mathlib.Omega.{arith}
use mathlib.Core.Path.{◌≡◌, refl, sym, ap, ◌∙◌}
use mathlib.Core.Bool.{Bool, true, false, cond}
use mathlib.Core.List.{List}
use lib.ListN.{length, take, drop, length-drop}
use lib.Seq.{take-length}
use lib.Ieee.{Float}
use Rattle.params.specs.Table.{all_good}
use Rattle.params.specs.Answers.{on_fault}
use Rattle.params.specs.declared.Settings.{Settings}
use Rattle.picture.specs.declared.Shape.{Shape}
use Rattle.picture.specs.declared.Size.{Size}
use Rattle.sheet.specs.Pack.{sound}
use Rattle.sheet.specs.Layout.{Layout, Frame, header_size, record_size, header_slots, header_values}
use Rattle.sheet.specs.Sheet.{all_pass, header_in, read_count, bytes_right}
use Rattle.sheet.specs.Writes.{frame_of}
use Rattle.sheet.specs.Reads.{layout_in}
use Rattle.sheet.proofs.Back.{Kept, kept}
use Rattle.sheet_edition.specs.Edition.{layout_for}
use Rattle.sheet_edition.specs.declared.Edition.{Edition}
use Rattle.sheet_fields.specs.Fields.{header_list}
use Rattle.sheet_fields.specs.declared.Header as Fields
use Rattle.audit_compare.specs.Difference.{first_difference, of_octave}
use Rattle.audit_compare.specs.Standing.{start, stated_in, Standing}
use Rattle.audit_walk.specs.Walk.{passed, octave_found}
use Rattle.audit_verdict.specs.Verdict.{header_difference, Checked, Refused, Header}
use Rattle.audit_rule.specs.Fine.{Fine}
use Rattle.audit_verdict.specs.Told.{told_by}
use Rattle.audit_rule.specs.Left.{answer_left}
use Rattle.audit_rule.proofs.Answered.{stands, sound_left}

when : (b : Bool) (x y : Checked) → b ≡ true → cond b x y ≡ x
when b x y e = rw e

otherwise : (b : Bool) (x y : Checked) → b ≡ false → cond b x y ≡ y
otherwise b x y e = rw e

on_fault_lem : (f : ℕ) (x : Checked) → (f ≡ 0 → ⊥) → on_fault f x (Header f) ≡ Header f
on_fault_lem zero x n = absurd (n refl)
on_fault_lem (suc f) x n = refl

-- ---- the bytes, the edition that they state, and the header's fields

module _ (bs : List ℕ) (right : bytes_right (layout_in bs) bs ≡ true) where
  whole : Kept (layout_in bs) bs
  whole = kept (layout_in bs) bs right

  pub long : header_size ≤ length bs
  long = whole.long

  -- those behind the header
  abbrev pub body : List ℕ
  body = take (length bs - header_size) (drop header_size bs)

  body_is : body ≡ drop header_size bs
  body_is = ap (λ (n : ℕ). take n (drop header_size bs)) (sym (length-drop header_size bs)) ∙ take-length (drop header_size bs)

  module _ (e : Edition) (layout : layout_for e ≡ layout_in bs) where
    module _ (h : Fields.Header) (says : header_in (layout_for e) bs ≡ header_list h) where
      says_in : header_in (layout_in bs) bs ≡ header_list h
      says_in = ap (λ (l : Layout). header_in l bs) (sym layout) ∙ says

      count_is : read_count (layout_in bs) bs ≡ h.count
      unfolding read_count
      count_is = rw says_in

      pub header_right : sound (header_slots (layout_for e)) (header_list h) ≡ true
      header_right = rw (layout, sym says_in) whole.header

      pub records_in_lem : record_size (layout_for e) * h.count ≤ length body
      records_in_lem = rw (layout, body_is, length-drop, sym count_is) (let n = whole.exact in omega arith)

      stated_is : stated_in (layout_for e) h.count body ≡ stated_in (layout_in bs) (read_count (layout_in bs) bs) (drop header_size bs)
      stated_is = rw (layout, body_is, count_is)

      -- ---- the answer, by the standing after the walk

      module _ (dog gauss : List Float) (t : Shape) (octave : ℕ) (s : Settings) (base : Size) (f : Fine (length dog) (length gauss) t octave s base) (good : all_good dog ≡ true) where
        abbrev frame : Frame
        frame = frame_of base.width base.height s.layers

        abbrev stated : List (List ℕ)
        stated = stated_in (layout_for e) h.count body

        abbrev difference : ℕ
        difference = first_difference (header_values (layout_for e) frame h.count) (header_list h)

        difference_is : difference ≡ header_difference (layout_in bs) frame bs
        difference_is = rw (layout, sym says_in, count_is)

        module _ (st : Standing) (after : st ≡ passed gauss (record { shape = t; octave = octave; layout = layout_for e; stated = stated }) start (octave_found dog t octave s)) where
          stands_is : st ≡ stands dog gauss t octave s base f good bs (layout_in bs) (stated_in (layout_in bs) (read_count (layout_in bs) bs) (drop header_size bs))
          stands_is =
              after
              ∙ ap (λ (l : Layout). passed gauss (record { shape = t; octave = octave; layout = l; stated = stated }) start (octave_found dog t octave s)) layout
              ∙ ap (λ (rs : List (List ℕ)). passed gauss (record { shape = t; octave = octave; layout = layout_in bs; stated = rs }) start (octave_found dog t octave s)) stated_is

          decided : answer_left dog gauss t octave s base bs
              ≡ cond st.good (cond (all_pass (of_octave octave) stated) (on_fault difference (told_by h.count st) (Header difference)) (Refused 5)) (Refused 6)
          decided =
              sound_left dog gauss t octave s base f good bs right
              ∙ ap (λ (x : Standing). cond x.good (cond (all_pass (of_octave octave) (stated_in (layout_in bs) (read_count (layout_in bs) bs) (drop header_size bs))) (on_fault (header_difference (layout_in bs) frame bs) (told_by (read_count (layout_in bs) bs) x) (Header (header_difference (layout_in bs) frame bs))) (Refused 5)) (Refused 6)) (sym stands_is)
              ∙ ap (λ (rs : List (List ℕ)). cond st.good (cond (all_pass (of_octave octave) rs) (on_fault (header_difference (layout_in bs) frame bs) (told_by (read_count (layout_in bs) bs) st) (Header (header_difference (layout_in bs) frame bs))) (Refused 5)) (Refused 6)) (sym stated_is)
              ∙ ap (λ (d : ℕ). cond st.good (cond (all_pass (of_octave octave) stated) (on_fault d (told_by (read_count (layout_in bs) bs) st) (Header d)) (Refused 5)) (Refused 6)) (sym difference_is)
              ∙ ap (λ (n : ℕ). cond st.good (cond (all_pass (of_octave octave) stated) (on_fault difference (told_by n st) (Header difference)) (Refused 5)) (Refused 6)) count_is

          pub says_6 : st.good ≡ false → Refused 6 ≡ answer_left dog gauss t octave s base bs
          says_6 a = sym (decided ∙ otherwise st.good _ (Refused 6) a)

          module _ (a : st.good ≡ true) where
            pub says_5 : all_pass (of_octave octave) stated ≡ false → Refused 5 ≡ answer_left dog gauss t octave s base bs
            says_5 b = sym (decided ∙ when st.good _ (Refused 6) a ∙ otherwise (all_pass (of_octave octave) stated) _ (Refused 5) b)

            module _ (b : all_pass (of_octave octave) stated ≡ true) where
              fine : answer_left dog gauss t octave s base bs ≡ on_fault difference (told_by h.count st) (Header difference)
              fine = decided ∙ when st.good _ (Refused 6) a ∙ when (all_pass (of_octave octave) stated) _ (Refused 5) b

              pub says_header : (field : ℕ) → field ≡ difference → (field ≡ 0 → ⊥) → Header field ≡ answer_left dog gauss t octave s base bs
              says_header field d n = sym (fine ∙ ap (λ (x : ℕ). on_fault x (told_by h.count st) (Header x)) (sym d) ∙ on_fault_lem field (told_by h.count st) n)

              pub says_told : (field : ℕ) → field ≡ difference → field ≡ 0 → told_by h.count st ≡ answer_left dog gauss t octave s base bs
              says_told field d z = sym (fine ∙ ap (λ (x : ℕ). on_fault x (told_by h.count st) (Header x)) (sym d ∙ z))
