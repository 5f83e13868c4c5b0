-- What the walk over a sheet's bytes finds and gives is what the definitions say, in every lawful layout. Assumes nothing.
use mathlib.Core.Path.{◌≡◌, refl, sym, ap, ◌∙◌, subst}
use mathlib.Core.Bool.{Bool, true, false, ◌&&◌, not}
use mathlib.Core.List.{List, [], ◌∷◌, flat_map}
use Prim.Native.Nat.{ℕ, ◌+◌, ◌-◌, ◌*◌, ◌/◌, ◌^◌, ◌≤◌, ◌<◌}
use native.Mathlib.Nat.{lt_of_lt_of_le, mul_comm, add-zero}
use native.Mathlib.Omega.{arith}
use borrow.Author.Tests.{le-leb, lt-leb, eq-eqb, ne_eqb}
use lib.Dec.{leb, eqb, lit<}
use lib.ListN.{length, get_or, take, drop, length-drop}
use Rattle.std.proofs.lemmas.Nat.{div-mul-add}
use lib.Pow.{pow_mono}
use lib.Seq.{drop-drop, take_all}
use Rattle.lists.specs.Pasted.{pasted}
use Rattle.params.specs.Table.{line, first_fault}
use Rattle.params.specs.Answers.{Done, Short, Refused, landed}
use Rattle.sheet.specs.Pack.{slot, unpack, sound}
use Rattle.sheet.specs.Layout.{Layout, Frame, header_size, header_slots, record_slots, record_size}
use Rattle.sheet.specs.Sheet.{parts, all_pass, record_right, header_in, read_frame, read_count, records_in, read_sheet, bytes_right}
use Rattle.sheet.specs.Words.{read_words, worded}
use Rattle.sheet.specs.Writes.{frame_of}
use Rattle.sheet.specs.Reads.{read_fault, words_in, read_number, edition_in, layout_in, with_frame, read_answer, read_out}
use Rattle.sheet.specs.Trip.{Lawful}
use Rattle.sheet.proofs.Packed.{sound_at, held_head, held_tail}
use Rattle.sheet.proofs.Parts.{pass_map, flat_map_lem}
use Rattle.sheet.proofs.Runs.{length_unpack}
use Rattle.sheet.proofs.Steps.{step_inside}
use Rattle.sheet.proofs.Alike.{fields_any, flat_same}
use Rattle.sheet.proofs.Words.{length_worded}
use Rattle.sheet.proofs.Return.{read_fault_lem}
use Rattle.sheet.proofs.Public.{header_first}
use Rattle.sheet.proofs.Answered.{answer_refused, answer_short, answer_done}
use Rattle.sheet_edition.specs.Edition.{layout_for}
use Rattle.sheet_edition.specs.declared.Edition.{Edition}
use Rattle.sheet_edition.proofs.Layouts.{size_is}
use Rattle.sheet_fields.specs.Fields.{header_list, HeaderFits, any_frame, bytes_words, record_bytes_right}
use Rattle.sheet_fields.specs.declared.Header.{Header}

-- a record's words are as many as are given
pub words_length : (l : Layout) (bs : List ℕ) → length (bytes_words l bs) ≡ read_words
unfolding record_slots
words_length l bs = length_worded l (unpack (record_slots l any_frame) bs) (length_unpack (record_slots l any_frame) bs)

-- where the code finds the record at i
module _ (e : Edition) where
  pub bytes_times : (n : ℕ) → e.bytes * n ≡ record_size (layout_for e) * n
  bytes_times n = ap (λ (m : ℕ). m * n) e.bytes_are

  pub bytes_count : (n : ℕ) → e.bytes * n ≡ 154 * n
  bytes_count n = ap (λ (m : ℕ). m * n) (e.bytes_are ∙ size_is e)

  pub bytes_pos : 0 < e.bytes
  bytes_pos = omega (arith, e.bytes_are, size_is e)

  -- the records behind a header, as the code cuts them
  pub parts_are : (bs : List ℕ) → parts e.bytes (length bs / e.bytes) bs ≡ parts (record_size (layout_for e)) (length bs / record_size (layout_for e)) bs
  parts_are bs = ap (λ (k : ℕ). parts k (length bs / k) bs) e.bytes_are

  pub body_parts : (bs : List ℕ) (n : ℕ) → length bs ≡ header_size + record_size (layout_for e) * n →
      let body = take (length bs - header_size) (drop header_size bs) in
      parts (record_size (layout_for e)) (length body / record_size (layout_for e)) body ≡ parts (record_size (layout_for e)) n (drop header_size bs)
  body_parts bs n h =
      let k = record_size (layout_for e) in
      let body = drop header_size bs in
      let t : take (length bs - header_size) body ≡ body = take_all _ body (rw length-drop (omega arith)) in
      let m : length body ≡ k * n = rw length-drop (omega (arith, h)) in
      let d : k * n / k ≡ n = ap (λ (x : ℕ). x / k) (mul_comm k n ∙ sym (add-zero (n * k))) ∙ div-mul-add n k 0 (omega (arith, size_is e)) in
      rw (t, m, d)

  pub record_inside : (n i long : ℕ) → header_size + record_size (layout_for e) * n ≤ long → i < n → header_size + e.bytes * i + e.bytes ≤ long
  record_inside n i long h r = omega (arith, bytes_times n, step_inside e.bytes n i r)

  pub record_at : (bs : List ℕ) (i : ℕ) →
      take (header_size + e.bytes * i + e.bytes - (header_size + e.bytes * i)) (drop (header_size + e.bytes * i) bs)
      ≡ take (record_size (layout_for e)) (drop (record_size (layout_for e) * i) (drop header_size bs))
  record_at bs i =
      let m : header_size + e.bytes * i + e.bytes - (header_size + e.bytes * i) ≡ e.bytes = omega arith in
      ap (λ (n : ℕ). take n (drop (header_size + e.bytes * i) bs)) m
      ∙ ap (take e.bytes) (sym (drop-drop (e.bytes * i) header_size bs))
      ∙ ap (λ (n : ℕ). take n (drop (n * i) (drop header_size bs))) e.bytes_are

-- a header's fields have room
pub record Room (h : Header) : Type 0 where
  pub edition : h.edition < 2 ^ 4
  pub width : h.width < 2 ^ 16
  pub height : h.height < 2 ^ 16
  pub count : h.count < 2 ^ 20

pub room : (l : Layout) → Lawful l → (h : Header) → HeaderFits l h → Room h
room l k h f =
    let s : l.side ≤ 16 = omega (arith, k.side) in
    let t = held_tail f in
    record {
      edition = held_head f;
      width = lt_of_lt_of_le (held_head t) (pow_mono s);
      height = lt_of_lt_of_le (held_head (held_tail t)) (pow_mono s);
      count = held_head (held_tail (held_tail (held_tail t)));
    }

second_fails : (a b c d : Bool) → b ≡ false → (a && b && c && d) ≡ false
second_fails true b c d e = rw e
second_fails false b c d e = refl

third_fails : (a b c d : Bool) → c ≡ false → (a && b && c && d) ≡ false
third_fails true true c d e = rw e
third_fails true false c d e = refl
third_fails false b c d e = refl

last_says : (a b c d : Bool) → a ≡ true → b ≡ true → c ≡ true → (a && b && c && d) ≡ d
last_says a b c d p q r = rw (p, q, r)

pub short_is : (l : Layout) (bs : List ℕ) → length bs < header_size → bytes_right l bs ≡ false
unfolding bytes_right
short_is l bs h = rw (lt-leb header_size (length bs) h)

-- the rule of bytes, by the header's fields
module _ (l : Layout) (bs : List ℕ) (h : Header) (q : header_in l bs ≡ header_list h) where
  pub count_is : read_count l bs ≡ h.count
  unfolding read_count
  count_is = rw q

  frame_is : read_frame l bs ≡ record { width = h.width + 1; height = h.height + 1; layers = h.layers; rule = h.rule }
  unfolding read_frame
  frame_is = rw q

  pub edition_is : Lawful l → h.edition ≡ edition_in bs
  edition_is k = sym (ap (λ (v : List ℕ). get_or v 0 0) q) ∙ header_first l k bs

  -- there is one rule
  rule_is : sound (header_slots l) (header_list h) ≡ true → h.rule ≡ 0
  rule_is b = let r = (sound_at (header_slots l) (header_list h) (slot 0 0 0) b 5 (lit< tt)).1 in omega arith

  records_are : sound (header_slots l) (header_list h) ≡ true →
      all_pass (record_right l (read_frame l bs)) (read_sheet l bs).records
      ≡ all_pass (record_bytes_right l (frame_of (h.width + 1) (h.height + 1) h.layers)) (parts (record_size l) h.count (drop header_size bs))
  unfolding read_sheet records_in
  records_are b =
      let f = frame_is ∙ ap (λ (r : ℕ). record { width = h.width + 1; height = h.height + 1; layers = h.layers; rule = r }) (rule_is b) in
      pass_map (record_right l (read_frame l bs)) (unpack (record_slots l (read_frame l bs))) (parts (record_size l) (read_count l bs) (drop header_size bs))
      ∙ ap (λ (f : Frame). all_pass (record_bytes_right l f) (parts (record_size l) (read_count l bs) (drop header_size bs))) f
      ∙ ap (λ (n : ℕ). all_pass (record_bytes_right l (frame_of (h.width + 1) (h.height + 1) h.layers)) (parts (record_size l) n (drop header_size bs))) count_is

  -- its four parts
  abbrev long : Bool
  long = leb header_size (length bs)

  abbrev fine : Bool
  fine = sound (header_slots l) (header_list h)

  abbrev exact : Bool
  exact = eqb (length bs) (header_size + record_size l * h.count)

  abbrev each : Bool
  each = all_pass (record_right l (read_frame l bs)) (read_sheet l bs).records

  bytes_say : bytes_right l bs ≡ (long && fine && exact && each)
  unfolding bytes_right
  bytes_say = rw (q, count_is)

  pub bad_header : sound (header_slots l) (header_list h) ≡ false → bytes_right l bs ≡ false
  bad_header f = bytes_say ∙ second_fails long fine exact each f

  pub bad_length : (length bs ≡ header_size + record_size l * h.count → ⊥) → bytes_right l bs ≡ false
  bad_length f = bytes_say ∙ third_fails long fine exact each (ne_eqb _ _ f)

  pub records_say : header_size ≤ length bs → sound (header_slots l) (header_list h) ≡ true → length bs ≡ header_size + record_size l * h.count →
      bytes_right l bs ≡ all_pass (record_bytes_right l (frame_of (h.width + 1) (h.height + 1) h.layers)) (parts (record_size l) h.count (drop header_size bs))
  records_say a b d = bytes_say ∙ last_says long fine exact each (le-leb _ _ a) b (eq-eqb _ _ d) ∙ records_are b

-- the words of all records, as the code writes them
words_are : (l : Layout) (bs : List ℕ) (n : ℕ) → read_count l bs ≡ n → flat_map (bytes_words l) (parts (record_size l) n (drop header_size bs)) ≡ words_in l bs
unfolding words_in read_sheet records_in
words_are l bs n e =
    let f = read_frame l bs in
    sym (flat_map_lem (worded l) (unpack (record_slots l f)) (parts (record_size l) (read_count l bs) (drop header_size bs))
    ∙ flat_same (λ b. worded l (unpack (record_slots l f) b)) (bytes_words l) (λ b. ap (worded l) (fields_any l f any_frame b)) (parts (record_size l) (read_count l bs) (drop header_size bs))
    ∙ ap (λ (k : ℕ). flat_map (bytes_words l) (parts (record_size l) k (drop header_size bs))) e)

broken : first_fault (line 8 true ∷ []) ≡ 8
unfolding first_fault
broken = refl

-- the answer and the lent words, in the layout that the bytes state
module _ (l : Layout) (bs out : List ℕ) (i : layout_in bs ≡ l) where
  answer_in : read_answer bs (length out) ≡ with_frame (read_number l bs (length out)) (edition_in bs) (read_frame l bs)
  unfolding read_answer
  answer_in = ap (λ (m : Layout). with_frame (read_number m bs (length out)) (edition_in bs) (read_frame m bs)) i

  out_in : read_out bs out ≡ landed (read_number l bs (length out)) (words_in l bs) out
  unfolding read_out
  out_in = ap (λ (m : Layout). landed (read_number m bs (length out)) (words_in m bs) out) i

  fault_8 : bytes_right l bs ≡ false → read_fault l bs ≡ 8
  unfolding read_fault
  fault_8 e = ap (λ (b : Bool). first_fault (line 8 (not b) ∷ [])) e ∙ broken

  number_8 : bytes_right l bs ≡ false → read_number l bs (length out) ≡ Refused 8
  unfolding read_number
  number_8 e = answer_refused _ _ _ _ (λ z. omega (arith, fault_8 e)) ∙ ap Refused (fault_8 e)

  number_7 : bytes_right l bs ≡ true → length out < read_words * read_count l bs → read_number l bs (length out) ≡ Short (read_count l bs)
  unfolding read_number
  number_7 e h = answer_short _ _ _ _ (read_fault_lem l bs e) h

  number_0 : bytes_right l bs ≡ true → read_words * read_count l bs ≤ length out → read_number l bs (length out) ≡ Done (read_count l bs)
  unfolding read_number
  number_0 e h = answer_done _ _ _ _ (read_fault_lem l bs e) h

  -- what the code answers on each of its three ways, and what it leaves
  pub says_8 : bytes_right l bs ≡ false →
      (record { answer = Refused 8; edition = 0; width = 0; height = 0; layers = 0 } ≡ read_answer bs (length out)) × (out ≡ read_out bs out)
  says_8 b = let k = number_8 b in (sym (answer_in ∙ rw k), sym (out_in ∙ rw k))

  module _ (h : Header) (q : header_in l bs ≡ header_list h) (b : bytes_right l bs ≡ true) where
    pub says_7 : length out < read_words * h.count →
        (record { answer = Short h.count; edition = 0; width = 0; height = 0; layers = 0 } ≡ read_answer bs (length out)) × (out ≡ read_out bs out)
    says_7 s =
        let c = count_is l bs h q in
        let k = number_7 b (subst (λ (m : ℕ). length out < read_words * m) (sym c) s) ∙ ap Short c in
        (sym (answer_in ∙ rw k), sym (out_in ∙ rw k))

    pub says_0 : Lawful l → (d : List ℕ) → read_words * h.count ≤ length out → d ≡ pasted 0 (flat_map (bytes_words l) (parts (record_size l) h.count (drop header_size bs))) out →
        (record { answer = Done h.count; edition = h.edition; width = h.width + 1; height = h.height + 1; layers = h.layers } ≡ read_answer bs (length out))
        × (d ≡ read_out bs out)
    says_0 k d s e =
        let c = count_is l bs h q in
        let n = number_0 b (subst (λ (m : ℕ). read_words * m ≤ length out) (sym c) s) ∙ ap Done c in
        (sym (answer_in ∙ rw (n, frame_is l bs h q, edition_is l bs h q k)), e ∙ ap (λ (x : List ℕ). pasted 0 x out) (words_are l bs h.count c) ∙ sym (out_in ∙ rw n))
