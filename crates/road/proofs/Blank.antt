-- Blank means that no cell was read, from a picture and a spot to a bit of the sheet, as specs/Blank.antt states it. Assumes nothing.
use Prim.Native.Nat.{ℕ, ◌+◌, ◌-◌, ◌*◌, ◌/◌, ◌%◌, ◌<◌, ◌≤◌}
use native.Mathlib.Omega.{arith}
use mathlib.Core.Path.{◌≡◌, refl, sym, ap, ◌∙◌, subst}
use mathlib.Core.Bool.{Bool, true, false, cond}
use mathlib.Core.List.{List, [], ◌∷◌, ◌++◌, map}
use borrow.Author.Tests.{eqb-true, eq-eqb, ne_eqb}
use lib.Dec.{eqb, lit<}
use lib.ListN.{length, get_or, take, drop, length-append, length-map}
use lib.Seq.{get_or-take, get_or-drop}
use lib.Ieee.{Float}
use Rattle.ieee.specs.F32.{bits_of}
use Rattle.params.specs.Limits.{value_count}
use Rattle.params.specs.Answers.{Done}
use Rattle.picture.specs.declared.Size.{Size}
use Rattle.detect_keypoint.specs.declared.RawKeypoint.{RawKeypoint}
use Rattle.orient_words.specs.declared.OrientedKeypoint.{OrientedKeypoint}
use Rattle.descriptor_run.specs.Cells.{samples_of}
use Rattle.descriptor_words.specs.Words.{turn_at, values_at, words_at}
use Rattle.picture.specs.declared.Spot.{Spot}
use Rattle.descriptor.specs.Nothing.{Told, read, samples, left}
use Rattle.descriptor.specs.Entry.{fault_of}
use Rattle.descriptor.proofs.Nothing.{samples_are, left_is as described_is, nothing_rule}
use Rattle.record.specs.Record.{head_of, floats_of, byte_of, blank_of, record_of}
use Rattle.record.specs.Make.{make_number}
use Rattle.record.proofs.Wrong.{accepted, right, left_is}
use Rattle.sheet.specs.Pack.{bits, number, bytes, pack}
use Rattle.sheet.specs.Layout.{Frame, edition2, layout_of, header_size, head_size, head_slots, record_size, record_slots}
use Rattle.sheet.specs.Sheet.{record_right}
use Rattle.sheet.specs.Words.{read_words, filled}
use Rattle.sheet.specs.Writes.{frame_of, count_in, records_of, words_right, write_answer, write_out}
use Rattle.sheet.proofs.Faults.{Sound}
use Rattle.sheet.proofs.Lawful.{Framed, lawful_edition, right_held}
use Rattle.sheet.proofs.Parts.{pass_at}
use Rattle.sheet.proofs.Public.{wrote_sound, wrote_record}
use Rattle.sheet.proofs.Runs.{pack_runs}
use Rattle.sheet.proofs.Words.{filled_is}
use Rattle.road.specs.Blank.{blank_bit, Tells, BlankRule}
use Rattle.road.proofs.Record.{blank_small, filled_at, makeable_taken}

-- ---- a record's head fills six bytes, of which the last ends in blank and five zero bits

last_byte : (n : ℕ) (rest : List ℕ) → get_or (bytes head_size n ++ rest) 5 0 ≡ n % 256
unfolding bytes
last_byte n rest = refl

third_bit : (f : Frame) (row column octave layer code blank : ℕ) → blank ≤ 1 →
    number (head_slots edition2 f) (row ∷ column ∷ octave ∷ layer ∷ code ∷ blank ∷ 0 ∷ []) % 256 / 32 % 2 ≡ blank
unfolding number bits
third_bit f row column octave layer code blank h = omega (arith, h)

-- ---- what the maker makes

module _ (k : RawKeypoint) (o : OrientedKeypoint) (values : List ℕ) (n : ℕ) where
  abbrev tail : List ℕ
  tail = floats_of o ++ map byte_of values

  -- its whole numbers and blank, on a sheet
  abbrev head : List ℕ
  head = head_of k ++ (blank_of n ∷ 0 ∷ [])

  filled_record : length values ≡ value_count → filled (record_of k o values n) ≡ head ++ tail
  unfolding record_of
  filled_record e = filled_is (head_of k) tail (blank_of n ∷ []) refl (length-append (floats_of o) (map byte_of values) ∙ ap (λ (m : ℕ). 5 + m) (length-map values byte_of ∙ e))

  sixth : (f : Frame) → Framed edition2 f → length values ≡ value_count → words_right edition2 f (record_of k o values n) ≡ true →
      get_or (pack (record_slots edition2 f) (filled (record_of k o values n))) 5 0 ≡ number (head_slots edition2 f) head % 256
  unfolding layout_of
  sixth f framed e right =
      let held = right_held edition2 f framed (head ++ tail) (ap (record_right edition2 f) (sym (filled_record e)) ∙ right) in
      ap (λ (v : List ℕ). get_or (pack (record_slots edition2 f) v) 5 0) (filled_record e)
      ∙ ap (λ (bs : List ℕ). get_or bs 5 0) (pack_runs edition2 (lawful_edition 2) refl f head (floats_of o) (map byte_of values) refl refl held)
      ∙ last_byte (number (head_slots edition2 f) head) _

-- ---- on the sheet: what stands at the record i of words that the writer of edition 2 wrote

module _ (width height layers : ℕ) (words out : List ℕ) (n i : ℕ) (e : write_answer 2 (frame_of width height layers) words (length out) ≡ Done n) (l : i < count_in edition2 words) where
  abbrev f : Frame
  f = frame_of width height layers

  abbrev here : List ℕ
  here = take read_words (drop (read_words * i) words)

  kept : Sound edition2 f words
  unfolding layout_of
  kept = wrote_sound 2 f words out n refl e

  framed : Framed edition2 f
  framed = record { width = below kept.width_low kept.width_high; height = below kept.height_low kept.height_high; layers = kept.layers_high }
    where
      below : {a b : ℕ} → 1 ≤ a → a ≤ b → a - 1 < b
      below p q = omega (arith, p, q)

  right_here : words_right edition2 f here ≡ true
  unfolding records_of
  right_here = pass_at (words_right edition2 f) read_words (count_in edition2 words) i words kept.records l

  bytes_here : take (record_size edition2) (drop (header_size + record_size edition2 * i) (write_out 2 f words out)) ≡ pack (record_slots edition2 f) (filled here)
  unfolding layout_of
  bytes_here = wrote_record 2 f words out n refl e i l

  sixth_here : get_or (write_out 2 f words out) (header_size + record_size edition2 * i + 5) 0 ≡ get_or (pack (record_slots edition2 f) (filled here)) 5 0
  sixth_here =
      sym (get_or-drop (header_size + record_size edition2 * i) (write_out 2 f words out) 5 0)
      ∙ sym (get_or-take (record_size edition2) (drop (header_size + record_size edition2 * i) (write_out 2 f words out)) 5 0 (lit< tt))
      ∙ ap (λ (bs : List ℕ). get_or bs 5 0) bytes_here

  -- where the words are the maker's, the bit is their blank word
  blank_bit_lem : (k : RawKeypoint) (o : OrientedKeypoint) (values : List ℕ) (m : ℕ) → length values ≡ value_count → here ≡ record_of k o values m → blank_bit i (write_out 2 f words out) ≡ blank_of m
  blank_bit_lem k o values m v h =
      ap (λ (b : ℕ). b / 32 % 2)
      (sixth_here
      ∙ ap (λ (w : List ℕ). get_or (pack (record_slots edition2 f) (filled w)) 5 0) h
      ∙ sixth k o values m f framed v (ap (words_right edition2 f) (sym h) ∙ right_here))
      ∙ third_bit f _ _ _ _ _ (blank_of m) (blank_small m)

-- ---- and the blank word is told by what the descriptor read

blank_one : (n : ℕ) → n ≡ 0 → blank_of n ≡ 1
blank_one n z = rw (eq-eqb n 0 z)

one_blank : (n : ℕ) → blank_of n ≡ 1 → n ≡ 0
one_blank n e = go (eqb n 0) refl e
  where
    go : (b : Bool) → eqb n 0 ≡ b → ◌≡◌ {A = ℕ} (cond b 1 0) 1 → n ≡ 0
    go true z one = eqb-true n 0 z
    go false z one = absurd (omega (arith, one))

blank_none : (n : ℕ) → (n ≡ 0 → ⊥) → blank_of n ≡ 0
blank_none n h = rw (ne_eqb n 0 h)

module _ (img : List Float) (s : Size) (p : Spot) (values : List ℕ) (t : Told img s p values) where
  tells : Tells (blank_of (samples img s p values)) (read img s p values)
  tells =
      let some : (read img s p values ≡ [] → ⊥) → blank_of (samples img s p values) ≡ 0 = λ h. blank_none _ (λ z. h (t.only z)) in
      record {
        nothing = λ e. blank_one _ (t.nothing e).0;
        only = λ e. t.only (one_blank _ e);
        something = some;
        level = λ h flat. some h;
      }

left_words : (img : List Float) (s : Size) (p : Spot) (values : List ℕ) → fault_of img s p ≡ 0 → length values ≡ value_count → left img s p values ≡ map bits_of (values_at img s p)
unfolding words_at
left_words img s p values fine room = described_is img s p fine values room

pub blank_rule : BlankRule
blank_rule =
    record {
      made =
          λ img s p values fine room k o m.
          ap (λ (n : ℕ). make_number k o (left img s p values) n read_words) (samples_are img s p fine values room)
          ∙ ap (λ (ws : List ℕ). make_number k o ws (length (samples_of img (turn_at s p))) read_words) (left_words img s p values fine room)
          ∙ makeable_taken k o (filled_at img s p fine) m;
      told =
          λ img s p values fine room k o made e width height layers words out n i done l h.
          let v = left img s p values in
          let m = samples img s p values in
          subst (λ (bit : ℕ). Tells bit (read img s p values))
          (sym (blank_bit_lem width height layers words out n i done l k o v m (right k o v m (accepted k o v m (length made) e)).0 (h ∙ left_is k o v m made e)))
          (tells img s p values (nothing_rule.told img s p values fine room));
    }
