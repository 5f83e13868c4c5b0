-- Whole records and the bytes that the writer of an edition makes of them: bytes that state their fields on the frame are these, and these state them. Assumes nothing.
use Prim.Native.Nat.{ℕ, ◌+◌, ◌-◌, ◌*◌, ◌≤◌}
use native.Mathlib.Nat.{le_trans, le_of_eq}
use native.Mathlib.Omega.{arith}
use mathlib.Core.Path.{◌≡◌, refl, sym, ap, ◌∙◌, subst}
use mathlib.Core.Bool.{true}
use mathlib.Core.List.{List, ◌∷◌, ◌++◌, map, map-map}
use borrow.Author.Tests.{eqb-true, eq-eqb, le-leb}
use lib.Dec.{lit<}
use lib.ListN.{length, get_or, take, drop, length-append, length-map, get_or-append, length-take}
use lib.Seq.{take_at, get_or-take}
use Rattle.params.specs.Answers.{Done}
use Rattle.sheet.specs.Pack.{slot, Bytes}
use Rattle.sheet.specs.Layout.{Layout, Frame, layout_of, known, header_size, header_slots, header_values, record_size, record_slots, max_count}
use Rattle.sheet.specs.Sheet.{all_pass, Sheet, record_right, sheet_bytes, header_in, read_frame, read_count, read_sheet, bytes_right}
use Rattle.sheet.specs.Words.{plain_words, head_words, layer_place, filled}
use Rattle.sheet.specs.Writes.{frame_of, sheet_of, layer_right, words_right, write_fault, written, write_size, write_answer, write_out}
use Rattle.sheet.specs.Reads.{edition_in, layout_in}
use Rattle.sheet.specs.Trip.{Lawful}
use Rattle.sheet.proofs.Packed.{sound_at, sound_length}
use Rattle.sheet.proofs.Lawful.{lawful_edition, right_sound}
use Rattle.sheet.proofs.Parts.{pass_map, pass_both}
use Rattle.sheet.proofs.Trip.{Right, right, read_records, read_header, read_count_lem, read_right, sheet_length}
use Rattle.sheet.proofs.Back.{Kept, kept, count_read, back}
use Rattle.sheet.proofs.Faults.{edition_known}
use Rattle.sheet.proofs.Return.{sheet_right_lem}
use Rattle.sheet.proofs.Answered.{done_told, landed_front}
use Rattle.sheet.proofs.Public.{wrote_sound}
use Rattle.road.specs.Back.{Framed, taken, handed_over, sheet_size, ReadsBack}
use Rattle.road.proofs.Writer.{whole, reads_back}
use Rattle.audit_compare.specs.Difference.{fields_of}
use Rattle.sheet.proofs.Public.{edition_kept}
use Rattle.road.proofs.Writer.{counted, cut}

-- ---- what a header says

-- bytes that keep the rules state an edition
pub edition_one : (bs : List ℕ) → Kept (layout_in bs) bs → known (edition_in bs) ≡ true
unfolding known
edition_one bs p = eq-eqb (layout_in bs).edition (edition_in bs) (sym (edition_kept (layout_in bs) (lawful_edition (edition_in bs)) bs p))

count_few : (l : Layout) (bs : List ℕ) → Kept l bs → read_count l bs ≤ max_count
unfolding read_count
count_few l bs p = (sound_at (header_slots l) (header_in l bs) (slot 0 0 0) p.header 4 (lit< tt)).1

-- one that agrees states the frame
pub frame_same : (l : Layout) (f : Frame) (bs : List ℕ) → 1 ≤ f.width → 1 ≤ f.height → header_values l f (read_count l bs) ≡ header_in l bs → read_frame l bs ≡ f
unfolding read_frame
frame_same l f bs w h e =
    let a : f.width - 1 + 1 ≡ f.width = omega arith in
    let b : f.height - 1 + 1 ≡ f.height = omega arith in
    rw (← e, a, b)

-- a record that keeps the rules has its layer in range
layer_right_lem : (l : Layout) (f : Frame) (w : List ℕ) → words_right l f w ≡ true → layer_right f.layers w ≡ true
unfolding record_slots filled
layer_right_lem l f w e =
    let h = right_sound l f (filled w) e in
    let a = sound_at (record_slots l f) (filled w) (slot 0 0 0) h layer_place (lit< tt) in
    let rest = get_or w plain_words 0 ∷ 0 ∷ take (plain_words - head_words) (drop head_words w) in
    let n = sym (length-append (take head_words w) rest) ∙ sound_length (record_slots l f) (filled w) h in
    let m = length-take (plain_words - head_words) (drop head_words w) in
    let q : get_or (filled w) layer_place 0 ≡ get_or w layer_place 0 = get_or-append (take head_words w) rest 0 layer_place (omega arith) ∙ get_or-take head_words w layer_place 0 (lit< tt) in
    rw (le-leb 1 (get_or w layer_place 0) (omega (arith, a.0, q)), le-leb (get_or w layer_place 0) f.layers (omega (arith, a.1, q)))

-- ---- whole records as the writer of an edition takes them, on a frame

module _ (edition wide high layers : ℕ) (rs : List (List ℕ)) (each : all_pass whole rs ≡ true) where
  abbrev m : Layout
  m = layout_of edition

  abbrev f : Frame
  f = frame_of wide high layers

  abbrev ws : List ℕ
  ws = handed_over edition rs

  -- the sheet that it makes of them has their fields
  sheet_has : sheet_of m f ws ≡ record { frame = f; records = map (fields_of m) rs }
  unfolding sheet_of
  sheet_has =
      ap (λ (ps : List (List ℕ)). record { frame = f; records = map filled ps })
      (cut edition rs each)
      ∙ ap (λ (vs : List (List ℕ)). record { frame = f; records = vs }) (map-map filled (taken edition) rs)

  -- bytes that state the frame and their fields are those that it makes
  module _ (bs : List ℕ) (framed : Framed wide high layers) (one : known edition ≡ true) (p : Kept m bs) (at : read_frame m bs ≡ f)
      (same : map (fields_of m) rs ≡ (read_sheet m bs).records) where
    count_is : length rs ≡ read_count m bs
    count_is = sym (length-map rs (fields_of m)) ∙ ap length same ∙ count_read m bs

    all_right : all_pass (λ r. words_right m f (taken edition r)) rs ≡ true
    all_right =
        sym (pass_map (record_right m f) (fields_of m) rs)
        ∙ ap (all_pass (record_right m f)) same
        ∙ ap (λ (g : Frame). all_pass (record_right m g) (read_sheet m bs).records) (sym at)
        ∙ p.records

    goes : ReadsBack edition wide high layers rs
    goes =
        reads_back edition rs each one wide high layers framed (subst (λ (n : ℕ). n ≤ max_count) (sym count_is) (count_few m bs p)) all_right
        (pass_both (λ r. words_right m f (taken edition r)) (λ r. layer_right layers (taken edition r)) (λ r e. layer_right_lem m f (taken edition r) e) rs all_right)

    size_is : sheet_size edition rs ≡ length bs
    size_is = ap (λ (n : ℕ). header_size + record_size m * n) count_is ∙ sym p.exact

    sheet_is : record { frame = f; records = map (fields_of m) rs } ≡ read_sheet m bs
    unfolding read_sheet
    sheet_is =
        ap (λ (vs : List (List ℕ)). record { frame = f; records = vs }) same
        ∙ ap (λ (g : Frame). record { frame = g; records = (read_sheet m bs).records }) (sym at)

    bytes_are : Bytes bs → written m f ws ≡ bs
    unfolding written
    bytes_are g = ap (sheet_bytes m) (sheet_has ∙ sheet_is) ∙ back m bs (lawful_edition edition) g p

    pub wrote : (out : List ℕ) → length bs ≤ length out → write_answer edition f ws (length out) ≡ Done (length bs)
    wrote out h = goes.written out (le_trans (le_of_eq size_is) h) ∙ ap Done size_is

    pub left : Bytes bs → (out : List ℕ) → length bs ≤ length out → write_out edition f ws out ≡ bs ++ drop (length bs) out
    unfolding write_out
    left g out h =
        landed_front (write_answer edition f ws (length out)) (written m f ws) out (length bs) (length bs) (wrote out h) (ap length (bytes_are g))
        ∙ ap (λ (x : List ℕ). x ++ drop (length bs) out) (bytes_are g)

  -- and the bytes that it makes state them
  module _ (out : List ℕ) (n : ℕ) (e : write_answer edition f ws (length out) ≡ Done n) where
    abbrev made : List ℕ
    made = written m f ws

    abbrev sheet : Sheet
    sheet = sheet_of m f ws

    lawful : Lawful m
    lawful = lawful_edition edition

    holds : Right m lawful sheet
    holds = right m lawful sheet (sheet_right_lem m f ws (wrote_sound edition f ws out n refl e) (omega arith))

    fields_are : sheet.records ≡ map (fields_of m) rs
    fields_are = ap (λ (x : Sheet). x.records) sheet_has

    frame_is : sheet.frame ≡ f
    frame_is = ap (λ (x : Sheet). x.frame) sheet_has

    told : (write_fault edition f ws ≡ 0) × (write_size m ws ≤ length out) × (write_size m ws ≡ n)
    unfolding write_answer
    told = done_told _ _ _ _ n e

    long : length made ≡ n
    unfolding written
    long =
        sheet_length m lawful sheet holds
        ∙ ap (λ (c : ℕ). header_size + record_size m * c) (ap length fields_are ∙ length-map rs (fields_of m) ∙ sym (counted edition rs each))
        ∙ told.2

    pub bytes_left : take n (write_out edition f ws out) ≡ made
    unfolding write_out
    bytes_left =
        ap (take n) (landed_front (write_answer edition f ws (length out)) made out n n e long)
        ∙ take_at made (drop n out) n long

    -- what is read of them, in the layout of an edition's number
    abbrev Read : ℕ → Type 0
    Read v =
        (bytes_right (layout_of v) made ≡ true) × (header_values (layout_of v) f (read_count (layout_of v) made) ≡ header_in (layout_of v) made)
        × (map (fields_of (layout_of v)) rs ≡ (read_sheet (layout_of v) made).records)

    read : Read edition
    unfolding written
    read = (
      read_right m lawful sheet holds,
      ap (header_values m f) (read_count_lem m lawful sheet holds) ∙ ap (λ (x : Frame). header_values m x (length sheet.records)) (sym frame_is) ∙ sym (read_header m lawful sheet holds),
      sym (read_records m lawful sheet holds ∙ fields_are),
    )

    edition_is : edition_in made ≡ edition
    unfolding known
    edition_is = edition_kept m lawful made (kept m made read.0) ∙ eqb-true m.edition edition (edition_known edition f ws told.0)

    pub read_in : Read (edition_in made)
    read_in = subst Read (sym edition_is) read
