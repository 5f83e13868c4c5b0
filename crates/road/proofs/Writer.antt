-- Records that keep the rules, each by itself, make words that the writer of an edition accepts, and the sheet reads back. Assumes nothing.
use Prim.Native.Nat.{ℕ, ◌+◌, ◌*◌, ◌/◌, ◌%◌, ◌≤◌}
use native.Mathlib.Nat.{le_trans, le_of_eq, mul-div_right, mul-mod_right}
use mathlib.Core.Path.{◌≡◌, sym, ap, ◌∙◌, subst}
use mathlib.Core.Bool.{Bool, true}
use mathlib.Core.List.{List, ◌++◌, map, flat_map}
use borrow.Author.Tests.{eqb-true}
use lib.Dec.{eqb}
use lib.ListN.{length, drop}
use lib.Seq.{length-take-le}
use Rattle.params.specs.Answers.{answer_of, Done}
use Rattle.sheet.specs.Layout.{Layout, Frame, layout_of, known, header_size, record_size, max_count}
use Rattle.sheet.specs.Sheet.{parts, all_pass}
use Rattle.sheet.specs.Words.{read_words, taken_words, with_blank}
use Rattle.sheet.specs.Writes.{frame_of, count_in, records_of, words_right, layer_right, write_fault, write_answer}
use Rattle.sheet.specs.Reads.{read_answer, read_out}
use Rattle.sheet.proofs.Parts.{length_flat, parts_flat, pass_map, flat_map_lem}
use Rattle.sheet.proofs.Faults.{Sound, fault_none, known_fault}
use Rattle.sheet.proofs.Lawful.{side_edition}
use Rattle.sheet.proofs.Return.{taken_pos, taken_read}
use Rattle.sheet.proofs.Answered.{answer_done}
use Rattle.sheet.proofs.Public.{written_is_read}
use Rattle.road.specs.Back.{Framed, taken, handed_over, sheet_size, sheet_in, ReadsBack}

abbrev pub whole : List ℕ → Bool
whole r = eqb (length r) read_words

module _ (edition : ℕ) (rs : List (List ℕ)) (each : all_pass whole rs ≡ true) where
  abbrev l : Layout
  l = layout_of edition

  abbrev words : List ℕ
  words = handed_over edition rs

  short : (r : List ℕ) → whole r ≡ true → length (taken edition r) ≡ taken_words l
  short r e = length-take-le (taken_words l) r (le_trans (taken_read l.marked) (le_of_eq (sym (eqb-true (length r) read_words e))))

  long : length words ≡ taken_words l * length rs
  long = length_flat (taken_words l) (taken edition) whole short rs each

  pub counted : count_in l words ≡ length rs
  counted = ap (λ (n : ℕ). n / taken_words l) long ∙ mul-div_right (length rs) (taken_pos l.marked)

  pub cut : records_of l words ≡ map (taken edition) rs
  unfolding records_of
  cut = ap (λ (n : ℕ). parts (taken_words l) n words) counted ∙ parts_flat (taken_words l) (taken edition) whole short rs each

  -- so for every test of the records
  all_cut : (p : List ℕ → Bool) → all_pass (λ r. p (taken edition r)) rs ≡ true → all_pass p (records_of l words) ≡ true
  all_cut p h = ap (all_pass p) cut ∙ pass_map p (taken edition) rs ∙ h

  module _ (known_one : known edition ≡ true) (wide high layers : ℕ) (framed : Framed wide high layers) (few : length rs ≤ max_count)
      (right : all_pass (λ r. words_right l (frame_of wide high layers) (taken edition r)) rs ≡ true) (layered : all_pass (λ r. layer_right layers (taken edition r)) rs ≡ true) where
    abbrev f : Frame
    f = frame_of wide high layers

    keeps : Sound l f words
    keeps = record {
      width_low = framed.across.0;
      width_high = le_trans framed.across.1 (le_of_eq (sym (side_edition edition)));
      height_low = framed.down.0;
      height_high = le_trans framed.down.1 (le_of_eq (sym (side_edition edition)));
      layers_low = framed.deep.0;
      layers_high = framed.deep.1;
      whole = ap (λ (n : ℕ). n % taken_words l) long ∙ mul-mod_right (taken_words l) (length rs);
      count = subst (λ (n : ℕ). n ≤ max_count) (sym counted) few;
      records = all_cut (words_right l f) right;
    }

    writer_accepts : write_fault edition f words ≡ 0
    writer_accepts = known_fault edition f words known_one ∙ fault_none l f words keeps framed.across.1 framed.down.1 (all_cut (layer_right layers) layered)

    write_done : (out : List ℕ) → sheet_size edition rs ≤ length out → write_answer edition f words (length out) ≡ Done (sheet_size edition rs)
    unfolding write_answer
    write_done out h =
        ap (λ (n : ℕ). answer_of (write_fault edition f words) (header_size + record_size l * n) (header_size + record_size l * n) (length out)) counted
        ∙ answer_done (write_fault edition f words) (sheet_size edition rs) (sheet_size edition rs) (length out) writer_accepts h

    module _ (out room : List ℕ) (h : sheet_size edition rs ≤ length out) (g : read_words * length rs ≤ length room) where
      abbrev bytes : List ℕ
      bytes = sheet_in edition wide high layers rs out

      abbrev Trip : ℕ → List ℕ → Type 0
      Trip n given =
          (read_answer bytes (length room) ≡ record { answer = Done n; edition = edition; width = wide; height = high; layers = layers })
          × (read_out bytes room ≡ given ++ drop (read_words * n) room)

      trip : Trip (length rs) (flat_map (λ r. with_blank l (taken edition r)) rs)
      trip =
          subst (λ (n : ℕ). Trip n (flat_map (λ r. with_blank l (taken edition r)) rs)) counted
          (subst (Trip (count_in l words)) (ap (flat_map (with_blank l)) cut ∙ flat_map_lem (with_blank l) (taken edition) rs)
          (written_is_read edition wide high layers words out room (sheet_size edition rs) (write_done out h) (subst (λ (n : ℕ). read_words * n ≤ length room) (sym counted) g)))

    pub reads_back : ReadsBack edition wide high layers rs
    reads_back =
        record {
          accepted = writer_accepts;
          written = write_done;
          answered = λ out room h g. (trip out room h g).0;
          given = λ out room h g. (trip out room h g).1;
        }
