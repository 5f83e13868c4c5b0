-- What the checker accepts are the bytes of the rules' own sheet, and that sheet is accepted, in every edition. Assumes nothing.
use Prim.Native.Nat.{ℕ, suc, ◌%◌, ◌^◌}
use native.Mathlib.Nat.{le_trans, le_of_eq}
use native.Mathlib.Omega.{arith}
use mathlib.Core.Path.{◌≡◌, refl, sym, ap, ◌∙◌}
use mathlib.Core.Bool.{Bool, true, false, not}
use mathlib.Core.List.{List, [], ◌∷◌, map}
use borrow.Author.Tests.{eqb-true, eq-eqb}
use lib.Dec.{lit<}
use lib.ListN.{length, get_or, take, get_or-append, length-take}
use lib.Seq.{get_or-take, length-take-le}
use lib.Ieee.{Float}
use Rattle.params.specs.Table.{line, first_fault, all_good}
use Rattle.params.specs.declared.Settings.{Settings}
use Rattle.params.specs.Answers.{Done}
use Rattle.picture.specs.declared.Shape.{Shape}
use Rattle.picture.specs.declared.Size.{Size}
use Rattle.detect_keypoint.specs.declared.RawKeypoint.{RawKeypoint}
use Rattle.orient_words.specs.declared.OrientedKeypoint.{OrientedKeypoint}
use Rattle.record.specs.Record.{record_of}
use Rattle.sheet.specs.Pack.{Bytes}
use Rattle.sheet.specs.Layout.{Layout, Frame, layout_of, header_values}
use Rattle.sheet.specs.Sheet.{all_pass, read_count, read_sheet, bytes_right}
use Rattle.sheet.specs.Words.{read_words, head_words, taken_words, filled}
use Rattle.sheet.specs.Writes.{frame_of, written, write_answer, write_out}
use Rattle.sheet.specs.Reads.{edition_in, layout_in}
use Rattle.sheet.proofs.Parts.{pass_map}
use Rattle.sheet.proofs.Back.{Kept, kept}
use Rattle.sheet.proofs.Return.{taken_plain, taken_read}
use Rattle.road.specs.Road.{Among, Octave, record_for, octave_records}
use Rattle.road.specs.Back.{Framed}
use Rattle.road.proofs.Members.{pass_all}
use Rattle.road.proofs.Stages.{sound}
use Rattle.road.proofs.Writer.{whole}
use Rattle.audit_compare.specs.Difference.{differs_from, first_difference, octave_place, fields_of, of_octave}
use Rattle.audit_rule.specs.Entry.{octave_of, keypoints_in, all_of, read_good, planes_fault, sheet_fault, check_answer}
use Rattle.audit_verdict.specs.Verdict.{records_verdict, header_difference, sheet_verdict, Accepted}
use Rattle.audit_rule.specs.Rules.{Sound, Ours, given, stated, answer, SameHeader, rules_words}
use Rattle.audit_rule.specs.Fine as Form
use Rattle.audit_rule.proofs.Form.{searched}
use Rattle.audit_rule.proofs.Form as Forms
use Rattle.audit_rule.proofs.Rows.{origin, whole_in, all_whole}
use Rattle.audit_rule.proofs.First.{reached, accepted_same}
use Rattle.audit_rule.proofs.Written.{edition_one, frame_same, wrote, left, bytes_left, read_in}

-- ---- the verdict on two equal lists

differs_self : (at : ℕ) (xs : List ℕ) → differs_from at xs xs ≡ 0
unfolding differs_from
differs_self at [] = refl
differs_self at (x ∷ xs) = rw (eq-eqb x x refl, differs_self (suc at) xs)

verdict_self : (at : ℕ) (rs : List (List ℕ)) → records_verdict at rs rs ≡ Accepted
unfolding records_verdict
verdict_self at [] = refl
verdict_self at (r ∷ rs) = rw (differs_self 1 r, verdict_self (suc at) rs)

-- ---- no refusal

both_none : (i j : ℕ) (a b : Bool) → first_fault (line (suc i) (not a) ∷ line (suc j) (not b) ∷ []) ≡ 0 → (a ≡ true) × (b ≡ true)
unfolding first_fault
both_none i j true true h = (refl, refl)
both_none i j true false h = absurd (omega arith)
both_none i j false b h = absurd (omega arith)

-- a record's field of the octave is its word
octave_kept : (l : Layout) (r : List ℕ) → whole r ≡ true → get_or (fields_of l r) octave_place 0 ≡ get_or r octave_place 0
unfolding filled
octave_kept l r e =
    let w = take (taken_words l) r in
    let n : length w ≡ taken_words l = length-take-le (taken_words l) r (le_trans (taken_read l.marked) (le_of_eq (sym (eqb-true (length r) read_words e)))) in
    let o = taken_plain l.marked in
    get_or-append (take head_words w) _ 0 octave_place (omega (arith, length-take head_words w))
    ∙ get_or-take head_words w octave_place 0 (lit< tt)
    ∙ get_or-take (taken_words l) r octave_place 0 (omega arith)

octave_word_lem : (q : Octave) (k : RawKeypoint) (o : OrientedKeypoint) → get_or (record_for q k o) octave_place 0 ≡ k.octave % 2 ^ 8
unfolding record_of
octave_word_lem q k o = refl

module _ (dog gauss : List Float) (t : Shape) (octave : ℕ) (s : Settings) (base : Size) where
  abbrev Fine : Type 0
  Fine = Sound dog gauss t octave s base

  abbrev here : Octave
  here = octave_of dog gauss t octave

  abbrev records : List (List ℕ)
  records = octave_records s here

  abbrev frame : Frame
  frame = frame_of base.width base.height s.layers

  -- what no refusal before those of the sheet says
  pub formed : Fine → Form.Fine (length dog) (length gauss) t octave s base
  formed fine = Forms.fine (length dog) (length gauss) t octave s base fine.form

  pub stack_good : Fine → all_good dog ≡ true
  unfolding planes_fault
  stack_good fine = (both_none 5 5 (all_good dog) (all_of (read_good here) (keypoints_in s here)) fine.planes).0

  pub cells_good : Fine → all_of (read_good here) (keypoints_in s here) ≡ true
  unfolding planes_fault
  cells_good fine = (both_none 5 5 (all_good dog) (all_of (read_good here) (keypoints_in s here)) fine.planes).1

  framed : Fine → Framed base.width base.height s.layers
  framed fine = let f = formed fine in record { across = f.across; down = f.down; deep = (f.layers, f.searchable.many) }

  -- so each record that the rules give has the octave named
  pub all_octave : Fine → (l : Layout) → all_pass (of_octave octave) (map (fields_of l) records) ≡ true
  all_octave fine l =
      pass_map (of_octave octave) (fields_of l) records ∙ pass_all (λ r. of_octave octave (fields_of l r)) records each
    where
      each : (r : List ℕ) → Among r records → of_octave octave (fields_of l r) ≡ true
      each r m =
          let d = origin s here r m in
          let z = searched dog (length gauss) t octave s base (formed fine) (stack_good fine) d.layer d.from d.to in
          eq-eqb (get_or (fields_of l r) octave_place 0) octave
          (octave_kept l r (whole_in s here r m) ∙ ap (λ (w : List ℕ). get_or w octave_place 0) d.is ∙ octave_word_lem here d.keypoint d.direction
          ∙ (sound s here d.layer z d.keypoint d.found).low_byte)

  bytes_kept : (bs : List ℕ) → sheet_fault octave bs ≡ 0 → Kept (layout_in bs) bs
  unfolding sheet_fault
  bytes_kept bs e = kept (layout_in bs) bs (both_none 7 4 (bytes_right (layout_in bs) bs) (all_pass (of_octave octave) (read_sheet (layout_in bs) bs).records) e).0

  -- ---- both ways

  pub accepted_ours : (bs : List ℕ) → Bytes bs → answer dog gauss t octave s base bs ≡ Accepted → Sound dog gauss t octave s base × Ours dog gauss t octave s base (edition_in bs) bs
  accepted_ours bs g e =
      let r = reached dog gauss t octave s base bs Accepted e refl in
      let same = accepted_same dog gauss t octave s base bs r in
      let at_frame = framed r.sound in
      let p = bytes_kept bs r.sheet in
      let one = edition_one bs p in
      let at = frame_same (layout_in bs) frame bs at_frame.across.0 at_frame.down.0 same.0 in
      let all = all_whole s here in (
        r.sound,
        record {
          written = wrote (edition_in bs) base.width base.height s.layers records all bs at_frame one p at same.1;
          bytes = left (edition_in bs) base.width base.height s.layers records all bs at_frame one p at same.1 g;
        },
      )

  -- bytes that agree are accepted
  accepts : (bs : List ℕ) → Fine → bytes_right (layout_in bs) bs ≡ true → SameHeader dog gauss t octave s base bs
      → given dog gauss t octave s base bs ≡ stated dog gauss t octave s base bs → answer dog gauss t octave s base bs ≡ Accepted
  unfolding check_answer sheet_fault first_fault sheet_verdict
  accepts bs fine right_so header same =
      let h : header_difference (layout_in bs) frame bs ≡ 0 = ap (first_difference (header_values (layout_in bs) frame (read_count (layout_in bs) bs))) (sym header) ∙ differs_self 1 _ in
      rw (fine.form, fine.planes, right_so, ← same, all_octave fine (layout_in bs), h, verdict_self 0 (given dog gauss t octave s base bs))

  pub ours_accepted : (edition : ℕ) (out : List ℕ) (n : ℕ) → Sound dog gauss t octave s base
      → write_answer edition frame (rules_words dog gauss t octave s base edition) (length out) ≡ Done n
      → answer dog gauss t octave s base (take n (write_out edition frame (rules_words dog gauss t octave s base edition) out)) ≡ Accepted
  ours_accepted edition out n fine e =
      let all = all_whole s here in
      let r = read_in edition base.width base.height s.layers records all out n e in
      ap (answer dog gauss t octave s base) (bytes_left edition base.width base.height s.layers records all out n e)
      ∙ accepts (written (layout_of edition) frame (rules_words dog gauss t octave s base edition)) fine r.0 r.1 r.2
