-- The difference that the checker names is the first one: of the header's fields, of a record's, or where one of the two lists of records ends. Assumes nothing.
use Prim.Native.Nat.{ℕ, zero, suc, ◌<◌}
use native.Mathlib.Omega.{arith}
use mathlib.Core.Path.{◌≡◌, refl, sym, ap, subst}
use mathlib.Core.List.{List, []}
use lib.ListN.{length, get_or, take}
use lib.Ieee.{Float}
use Rattle.params.specs.Answers.{on_fault}
use Rattle.params.specs.declared.Settings.{Settings}
use Rattle.picture.specs.declared.Shape.{Shape}
use Rattle.picture.specs.declared.Size.{Size}
use Rattle.sheet.specs.Pack.{fields, unpack}
use Rattle.sheet.specs.Layout.{Layout, Frame, header_values}
use Rattle.sheet.specs.Sheet.{header_in, read_count}
use Rattle.sheet.specs.Writes.{frame_of}
use Rattle.sheet.specs.Reads.{layout_in}
use Rattle.road.specs.Road.{octave_records}
use Rattle.audit_rule.specs.Entry.{octave_of, form_fault, planes_fault, sheet_fault, unless, check_answer}
use Rattle.audit_verdict.specs.Verdict.{number_of, verdict_of, field_of, records_verdict, header_difference, sheet_verdict, Checked, Accepted, Header, Differs, Missing, LeftOver}
use Rattle.audit_rule.specs.Rules.{FirstAt, Sound, given, stated, answer, SameHeader}
use Rattle.audit_rule.proofs.Differences.{first_at, differs_none, Outcome, differs_here, ends_here, outcome}
use Rattle.audit_rule.proofs.Rows.{stated_rows, given_rows}

unless_told : (k : ℕ) (fine v : Checked) → unless k fine ≡ v → number_of v ≡ 0 → (k ≡ 0) × (fine ≡ v)
unless_told zero fine v e n = (refl, e)
unless_told (suc k) fine v e n = absurd (omega (arith, ap number_of e))

header_told : (d : ℕ) (rest v : Checked) → on_fault d rest (Header d) ≡ v → (verdict_of v ≡ 1 → ⊥) → (d ≡ 0) × (rest ≡ v)
header_told zero rest v e n = (refl, e)
header_told (suc d) rest v e n = absurd (n (sym (ap verdict_of e)))

header_at : (d f : ℕ) (rest : Checked) → on_fault d rest (Header d) ≡ Header f → (rest ≡ Header f → ⊥) → (d ≡ f) × (f ≡ 0 → ⊥)
header_at zero f rest e n = absurd (n e)
header_at (suc d) f rest e n = let p : suc d ≡ f = ap field_of e in (p, λ z. omega (arith, p, z))

header_same : (l : Layout) (f : Frame) (bs : List ℕ) → header_difference l f bs ≡ 0 → header_values l f (read_count l bs) ≡ header_in l bs
unfolding header_in unpack fields
header_same l f bs e = differs_none 1 (header_values l f (read_count l bs)) (header_in l bs) (omega arith) refl e

module _ (dog gauss : List Float) (t : Shape) (octave : ℕ) (s : Settings) (base : Size) where
  abbrev frame : Frame
  frame = frame_of base.width base.height s.layers

  abbrev records : List (List ℕ)
  records = octave_records s (octave_of dog gauss t octave)

  -- of a sheet: the answer; that the headers agree; the fields of the records that the rules give, and of its own
  abbrev said : List ℕ → Checked
  said bs = answer dog gauss t octave s base bs

  abbrev Headers : List ℕ → Type 0
  Headers bs = SameHeader dog gauss t octave s base bs

  abbrev made : List ℕ → List (List ℕ)
  made bs = given dog gauss t octave s base bs

  abbrev own : List ℕ → List (List ℕ)
  own bs = stated dog gauss t octave s base bs

  -- no refusal: none before those of the sheet, none of the sheet, and the verdict
  pub record Reached (bs : List ℕ) (v : Checked) : Type 0 where
    pub sound : Sound dog gauss t octave s base
    pub sheet : sheet_fault octave bs ≡ 0
    pub verdict : sheet_verdict (layout_in bs) frame records bs ≡ v

  pub reached : (bs : List ℕ) (v : Checked) → said bs ≡ v → number_of v ≡ 0 → Reached bs v
  unfolding check_answer
  reached bs v e n =
      let a = unless_told (form_fault (length dog) (length gauss) t octave s base) _ v e n in
      let b = unless_told (planes_fault s (octave_of dog gauss t octave)) _ v a.1 n in
      let c = unless_told (sheet_fault octave bs) _ v b.1 n in
      record { sound = record { form = a.0; planes = b.0 }; sheet = c.0; verdict = c.1 }

  abbrev Records : List ℕ → Checked → Type 0
  Records bs v = Outcome 0 (made bs) (own bs) v

  of_records : (bs : List ℕ) → Records bs (records_verdict 0 (made bs) (own bs))
  of_records bs =
      outcome 0 (made bs) (own bs)
      (given_rows (layout_in bs) s (octave_of dog gauss t octave)) (stated_rows (layout_in bs) bs)

  -- the verdict is not of the header: the headers agree, and it is that of the records
  agreed : (bs : List ℕ) (v : Checked) → Reached bs v → (verdict_of v ≡ 1 → ⊥) → Headers bs × Records bs v
  unfolding sheet_verdict
  agreed bs v p n =
      let h = header_told (header_difference (layout_in bs) frame bs) _ v p.verdict n in
      (header_same (layout_in bs) frame bs h.0, subst (Records bs) h.1 (of_records bs))

  pub accepted_same : (bs : List ℕ) → Reached bs Accepted → Headers bs × (made bs ≡ own bs)
  accepted_same bs p = agreed bs Accepted p (λ z. omega arith)

  pub first_header : (bs : List ℕ) (f : ℕ) → said bs ≡ Header f
      → FirstAt f (header_values (layout_in bs) frame (read_count (layout_in bs) bs)) (header_in (layout_in bs) bs)
  unfolding sheet_verdict
  first_header bs f e =
      let h = header_at (header_difference (layout_in bs) frame bs) f _ (reached bs (Header f) e refl).verdict (λ z. subst (Records bs) z (of_records bs)) in
      first_at (header_values (layout_in bs) frame (read_count (layout_in bs) bs)) (header_in (layout_in bs) bs) f h.0 h.1

  pub first_record : (bs : List ℕ) (i f : ℕ) → said bs ≡ Differs i f
      → Headers bs × (take i (made bs) ≡ take i (own bs)) × (i < length (made bs)) × (i < length (own bs)) × FirstAt f (get_or (made bs) i []) (get_or (own bs) i [])
  first_record bs i f e =
      let a = agreed bs (Differs i f) (reached bs (Differs i f) e refl) (λ z. omega arith) in
      let p = differs_here i f (made bs) (own bs) a.1 in
      (a.0, p.0, p.1, p.2, p.3)

  pub first_missing : (bs : List ℕ) (i : ℕ) → said bs ≡ Missing i → Headers bs × (own bs ≡ take i (made bs)) × (i ≡ length (own bs)) × (i < length (made bs))
  first_missing bs i e =
      let a = agreed bs (Missing i) (reached bs (Missing i) e refl) (λ z. omega arith) in
      let p = ends_here i (own bs) (made bs) a.1 in
      (a.0, p.0, p.1, p.2)

  pub first_left : (bs : List ℕ) (i : ℕ) → said bs ≡ LeftOver i → Headers bs × (made bs ≡ take i (own bs)) × (i ≡ length (made bs)) × (i < length (own bs))
  first_left bs i e =
      let a = agreed bs (LeftOver i) (reached bs (LeftOver i) e refl) (λ z. omega arith) in
      let p = ends_here i (made bs) (own bs) a.1 in
      (a.0, p.0, p.1, p.2)
