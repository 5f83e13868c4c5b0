-- What the maker refuses, as the code tests it; its number, and what it leaves. Assumes nothing.
use Rattle.std.proofs.Common.{◌≡◌, ℕ, Bool, true, false, not, ◌||◌, eqb, List, [], ◌∷◌, length, sym, refl, ap, ◌∙◌, arith, eq-eqb, ne_eqb, eqb-true}
use borrow.Author.Tests.{not-false}
use lib.Ieee.{ne, is_nan}
use Rattle.lists.proofs.Bools.{or_true, not_not}
use Rattle.params.specs.Limits.{value_count}
use Rattle.params.specs.Table.{line, first_fault}
use Rattle.params.specs.Answers.{on_fault}
use Rattle.params.proofs.Bools.{or_neither}
use Rattle.detect_keypoint.specs.declared.RawKeypoint.{RawKeypoint}
use Rattle.orient_words.specs.declared.OrientedKeypoint.{OrientedKeypoint}
use Rattle.words.specs.Keypoint.{keypoint_in}
use Rattle.words.specs.Oriented.{oriented_in}
use Rattle.descriptor_inputs.proofs.Checks.{eq_self}
use Rattle.sheet.specs.Layout.{Layout, edition2, layout_of}
use Rattle.sheet.specs.Words.{read_words, taken_words}
use Rattle.sheet.specs.Writes.{words_right}
use Rattle.sheet_edition.specs.Edition.{layout_for}
use Rattle.sheet_edition.specs.declared.Edition.{Edition}
use Rattle.sheet_edition.proofs.Layouts.{layout_is, layout_two}
use Rattle.record.specs.Record.{record_of}
use Rattle.record.specs.Make.{alike, widest, record_wrong, make_fault, make_number, make_left}
use Rattle.record.proofs.Puts.{length_record}

-- what edition 2 goes by
pub edition_two : (e : Edition) → e.number ≡ (layout_of 2).edition → layout_for e ≡ edition2
edition_two e h = layout_is 2 e h ∙ layout_two

-- two tests at once, before a third
first_two : (a b c d : Bool) → (a || b) ≡ d → (d || c) ≡ (a || (b || c))
first_two true b c d e = rw (← e)
first_two false b c d e = rw (← e)

module _ (k : RawKeypoint) (o : OrientedKeypoint) (values : List ℕ) (samples : ℕ) where
  -- the keypoints: the code's test, and what it tells
  told : (r : Bool) → r ≡ alike k o → (ne k.xi k.xi || not r) ≡ (is_nan k.xi || not (alike k o))
  unfolding ne
  told r e = rw (eq_self, not_not, e)

  pub wrong_keypoints : (r : Bool) → r ≡ alike k o → (ne k.xi k.xi || not r) ≡ true → true ≡ record_wrong k o values samples
  unfolding record_wrong
  wrong_keypoints r e h = first_two (is_nan k.xi) (not (alike k o)) _ true (sym (told r e) ∙ h)

  pub wrong_values : (length values ≡ value_count → ⊥) → true ≡ record_wrong k o values samples
  unfolding record_wrong
  wrong_values h = rw (ne_eqb (length values) value_count h, or_true, or_true)

  -- else the rules decide, of edition 2 on the widest frame, whose words they are
  pub asked : (e : Edition) (ws : List ℕ) → layout_for e ≡ edition2 → length values ≡ value_count → ws ≡ record_of k o values samples → length ws ≡ taken_words (layout_for e)
  asked e ws i l w = ap length w ∙ length_record k o values samples l ∙ sym (ap taken_words i)

  pub rules_decide : (r : Bool) → r ≡ alike k o → (ne k.xi k.xi || not r) ≡ false → length values ≡ value_count
      → (e : Edition) (ws : List ℕ) (s : Bool) → layout_for e ≡ edition2 → ws ≡ record_of k o values samples → s ≡ words_right (layout_for e) widest ws
      → not s ≡ record_wrong k o values samples
  unfolding record_wrong
  rules_decide r e h l d ws s i w t =
      ap not (t ∙ ap (λ (l : Layout). words_right l widest ws) i ∙ ap (words_right edition2 widest) w)
      ∙ sym (ap (λ (b : Bool). not b || not (words_right edition2 widest (record_of k o values samples))) (eq-eqb (length values) value_count l))
      ∙ first_two (is_nan k.xi) (not (alike k o)) _ false (sym (told r e) ∙ h)

  -- what is not refused
  pub right : record_wrong k o values samples ≡ false → (length values ≡ value_count) × (words_right edition2 widest (record_of k o values samples) ≡ true)
  unfolding record_wrong
  right h =
      let a = (or_neither (is_nan k.xi) _ h).1 in
      let b = (or_neither (not (alike k o)) _ a).1 in
      let c = or_neither (not (eqb (length values) value_count)) _ b in
      (eqb-true (length values) value_count (not-false _ c.0), not-false _ c.1)

  -- where the number is 0: nothing is refused, and the record is left
  fine : (b : Bool) (n : ℕ) → on_fault (first_fault (line 5 b ∷ [])) n (first_fault (line 5 b ∷ [])) ≡ 0 → b ≡ false
  unfolding first_fault
  fine true n h = absurd (omega arith)
  fine false n h = refl

  pub accepted : (room : ℕ) → make_number k o values samples room ≡ 0 → record_wrong k o values samples ≡ false
  unfolding make_number make_fault
  accepted room h = fine (record_wrong k o values samples) _ h

  pub left_is : (out : List ℕ) → make_number k o values samples (length out) ≡ 0 → make_left k o values samples out ≡ record_of k o values samples
  unfolding make_left
  left_is out h = rw h

-- ---- the number, and the words left, of the words of two keypoints

module _ (ks os values out : List ℕ) (samples : ℕ) (k : RawKeypoint) (o : OrientedKeypoint) (i : k ≡ keypoint_in ks) (j : o ≡ oriented_in os)
    (r : Bool) (e : r ≡ record_wrong k o values samples) where
  -- the maker answers n, and leaves these words
  abbrev Answers : ℕ → List ℕ → Type 0
  Answers n new = (n ≡ make_number (keypoint_in ks) (oriented_in os) values samples (length out)) × (new ≡ make_left (keypoint_in ks) (oriented_in os) values samples out)

  pub refused : r ≡ true → Answers 5 out
  unfolding make_left make_number make_fault first_fault
  refused w = rw (← i, ← j, ← e, w) (refl, refl)

  pub short : r ≡ false → (length out ≡ read_words → ⊥) → Answers 7 out
  unfolding make_left make_number make_fault first_fault
  short w n = rw (← i, ← j, ← e, w, ne_eqb (length out) read_words n) (refl, refl)

  pub done : (new : List ℕ) → r ≡ false → length out ≡ read_words → new ≡ record_of k o values samples → Answers 0 new
  unfolding make_left make_number make_fault first_fault
  done new w l t = rw (← i, ← j, ← e, w, eq-eqb (length out) read_words l) (refl, t)

  -- what putting the record together asks
  pub ready : r ≡ false → length values ≡ value_count
  ready w = (right k o values samples (sym e ∙ w)).0
