-- The return trip of the public entries. Assumes nothing.
use mathlib.Core.Path.{◌≡◌, refl, sym, ap, ◌∙◌, subst}
use mathlib.Core.Bool.{true}
use mathlib.Core.List.{List, ◌++◌, append_assoc, map, flat_map}
use Prim.Native.Nat.{ℕ, ◌+◌, ◌-◌, ◌*◌, ◌/◌, ◌^◌, ◌≤◌, ◌<◌}
use native.Mathlib.Nat.{le_of_eq}
use native.Mathlib.Omega.{arith}
use borrow.Author.Tests.{eqb-true, eq-eqb}
use lib.Dec.{eqb, lit<}
use lib.ListN.{length, get_or, take, drop, length-map}
use lib.Seq.{take_at}
use Rattle.params.specs.Answers.{landed, Answer, Done, Short, Refused}
use Rattle.sheet.specs.Pack.{slot, bits, pack, value, fields, unpack, Bytes}
use Rattle.sheet.specs.Layout.{Layout, Frame, layout_of, known, header_size, mark_bits, top_rule, header_slots, header_values, record_size, record_slots}
use Rattle.sheet.specs.Sheet.{record_right, sheet_bytes, header_in, read_frame, read_count, read_sheet}
use Rattle.sheet.specs.Words.{read_words, taken_words, filled, worded, with_blank}
use Rattle.sheet.specs.Writes.{frame_of, count_in, records_of, sheet_of, layout_fault, write_fault, written, write_size, write_answer, write_out}
use Rattle.sheet.specs.Reads.{Read, read_fault, words_in, read_number, edition_in, layout_in, with_frame, read_answer, read_out}
use Rattle.sheet.specs.Trip.{Lawful, handed_back, WrittenIsRead, ReadIsWritten, ReadOnce}
use Rattle.sheet.proofs.Packed.{sound_at, length_pack}
use Rattle.sheet.proofs.Lawful.{lawful_edition, side_edition, header_bits}
use Rattle.sheet.proofs.Parts.{length_parts, flat_at, flat_map_lem, length_flat}
use Rattle.sheet.proofs.Trip.{right, read_count_lem, record_length, sheet_length}
use Rattle.sheet.proofs.Words.{past}
use Rattle.sheet.proofs.Back.{Kept, kept, count_read}
use Rattle.sheet.proofs.Faults.{Sound, sound_of, edition_known, known_fault}
use Rattle.sheet.proofs.Return.{sheet_right_lem, long, fault_read, reads_back, writes_back}
use Rattle.sheet.proofs.Answered.{answer_done, done_told, landed_front}

-- what the writer makes, in any layout: how long it is, and the count that it states
module _ (l : Layout) (k : Lawful l) (f : Frame) (ws : List ℕ) (s : Sound l f ws) (r : f.rule ≤ top_rule l) where
  records_count : length (sheet_of l f ws).records ≡ count_in l ws
  unfolding sheet_of records_of
  records_count = length-map (records_of l ws) filled ∙ length_parts (taken_words l) (count_in l ws) ws

  written_length : length (written l f ws) ≡ write_size l ws
  unfolding written
  written_length = sheet_length l k (sheet_of l f ws) (right l k (sheet_of l f ws) (sheet_right_lem l f ws s r)) ∙ ap (λ (n : ℕ). header_size + record_size l * n) records_count

  written_count : read_count l (written l f ws) ≡ count_in l ws
  unfolding written
  written_count = read_count_lem l k (sheet_of l f ws) (right l k (sheet_of l f ws) (sheet_right_lem l f ws s r)) ∙ records_count

-- how long the words are that the reader gives
words_length : (l : Layout) (bs : List ℕ) → Kept l bs → length (words_in l bs) ≡ read_words * read_count l bs
unfolding words_in
words_length l bs p =
    length_flat read_words (worded l) (record_right l (read_frame l bs)) (long l (read_frame l bs) (read_sheet l bs).records p.records) (read_sheet l bs).records p.records
    ∙ ap (λ (n : ℕ). read_words * n) (count_read l bs)

-- the reader's answer, from what the checks gave
module _ (l : Layout) (bs room : List ℕ) (n : ℕ) where
  read_done : read_fault l bs ≡ 0 → read_count l bs ≡ n → read_words * n ≤ length room → read_number l bs (length room) ≡ Done n
  unfolding read_number
  read_done e c h = rw c (answer_done (read_fault l bs) n (read_words * n) (length room) e h)

  read_told : read_number l bs (length room) ≡ Done n → (read_fault l bs ≡ 0) × (read_words * read_count l bs ≤ length room) × (read_count l bs ≡ n)
  unfolding read_number
  read_told e = done_told _ _ _ _ n e

  -- what the reader leaves, in that layout
  abbrev left : List ℕ
  left = landed (read_number l bs (length room)) (words_in l bs) room

  out_done : read_number l bs (length room) ≡ Done n → left ≡ words_in l bs ++ drop (read_words * n) room
  out_done e =
      let t = read_told e in
      landed_front (read_number l bs (length room)) (words_in l bs) room n (read_words * n) e
      (words_length l bs (kept l bs (fault_read l bs t.0)) ∙ ap (λ (k : ℕ). read_words * k) t.2)

  words_told : read_number l bs (length room) ≡ Done n → take (read_words * n) left ≡ words_in l bs
  words_told e =
      let t = read_told e in
      ap (take (read_words * n)) (out_done e)
      ∙ take_at (words_in l bs) (drop (read_words * n) room) (read_words * n) (words_length l bs (kept l bs (fault_read l bs t.0)) ∙ ap (λ (k : ℕ). read_words * k) t.2)

frame_told : (a : Answer) (e : ℕ) (f : Frame) (n edition width height layers : ℕ) → with_frame a e f ≡ record { answer = Done n; edition = edition; width = width; height = height; layers = layers } →
    (a ≡ Done n) × (e ≡ edition) × (f.width ≡ width) × (f.height ≡ height) × (f.layers ≡ layers)
frame_told (Done k) d f n v w h y e = (
  ap (λ (r : Read). r.answer) e,
  ap (λ (r : Read). r.edition) e,
  ap (λ (r : Read). r.width) e,
  ap (λ (r : Read). r.height) e,
  ap (λ (r : Read). r.layers) e,
)
frame_told (Short k) d f n v w h y e = absurd (let z : Short k ≡ Done n = ap (λ (r : Read). r.answer) e in let x : ◌≡◌ {A = ℕ} 0 1 = cc in omega arith)
frame_told (Refused k) d f n v w h y e = absurd (let z : Refused k ≡ Done n = ap (λ (r : Read). r.answer) e in let x : ◌≡◌ {A = ℕ} 0 1 = cc in omega arith)

-- the edition that bytes state is the first field of their header, in every lawful layout
pub header_first : (l : Layout) → Lawful l → (bs : List ℕ) → get_or (header_in l bs) 0 0 ≡ edition_in bs
unfolding header_in unpack fields edition_in bits
header_first l k bs =
    let e : l.side + (l.side + (4 + (20 + (mark_bits l + (36 - (2 * l.side + mark_bits l) + 0))))) ≡ 60 = omega (arith, k.side) in
    ap (λ (n : ℕ). value (take header_size bs) / 2 ^ n) e

-- so a sound header has the layout's
pub edition_kept : (l : Layout) → Lawful l → (bs : List ℕ) → Kept l bs → edition_in bs ≡ l.edition
edition_kept l k bs p =
    let a = sound_at (header_slots l) (header_in l bs) (slot 0 0 0) p.header 0 (lit< tt) in
    let e = header_first l k bs in
    omega (arith, a.0, a.1)

-- a known edition's layout states its number
known_number : (edition : ℕ) → known edition ≡ true → (layout_of edition).edition ≡ edition
unfolding known
known_number edition t = eqb-true _ _ t

-- there is one rule
one_rule : (l : Layout) (bs : List ℕ) → Kept l bs → (read_frame l bs).rule ≡ 0
unfolding read_frame
one_rule l bs p = let a = (sound_at (header_slots l) (header_in l bs) (slot 0 0 0) p.header 5 (lit< tt)).1 in omega arith

frame_is : (f : Frame) (width height layers : ℕ) → f.width ≡ width → f.height ≡ height → f.layers ≡ layers → f.rule ≡ 0 → f ≡ frame_of width height layers
frame_is f w h y a b c d =
    ap (λ (n : ℕ). record { width = n; height = f.height; layers = f.layers; rule = f.rule }) a
    ∙ ap (λ (n : ℕ). record { width = w; height = n; layers = f.layers; rule = f.rule }) b
    ∙ ap (λ (n : ℕ). record { width = w; height = h; layers = n; rule = f.rule }) c
    ∙ ap (λ (n : ℕ). record { width = w; height = h; layers = y; rule = n }) d

-- what 0 of `read_sheet` says
module _ (bs room : List ℕ) (v w h y n : ℕ) (e : read_answer bs (length room) ≡ record { answer = Done n; edition = v; width = w; height = h; layers = y }) where
  abbrev l : Layout
  l = layout_in bs

  told : (read_number l bs (length room) ≡ Done n) × (edition_in bs ≡ v) × ((read_frame l bs).width ≡ w) × ((read_frame l bs).height ≡ h) × ((read_frame l bs).layers ≡ y)
  unfolding read_answer
  told = frame_told (read_number l bs (length room)) (edition_in bs) (read_frame l bs) n v w h y e

  told_fault : read_fault l bs ≡ 0
  told_fault = (read_told l bs room n told.0).0

  told_kept : Kept l bs
  told_kept = kept l bs (fault_read l bs told_fault)

  told_frame : read_frame l bs ≡ frame_of w h y
  told_frame = frame_is (read_frame l bs) w h y told.2 told.3 told.4 (one_rule l bs told_kept)

  told_words : take (read_words * n) (read_out bs room) ≡ words_in l bs
  unfolding read_out
  told_words = words_told l bs room n told.0

  -- the edition that is told is one
  told_known : known v ≡ true
  unfolding known
  told_known =
      let d = edition_kept l (lawful_edition (edition_in bs)) bs told_kept in
      ap (λ (k : ℕ). eqb (layout_of k).edition k) (sym told.1) ∙ eq-eqb l.edition (edition_in bs) (sym d)

-- what 0 of `write_sheet` says
module _ (v : ℕ) (f : Frame) (ws out : List ℕ) (n : ℕ) (z : f.rule ≡ 0) (e : write_answer v f ws (length out) ≡ Done n) where
  wrote : (write_fault v f ws ≡ 0) × (write_size (layout_of v) ws ≤ length out) × (write_size (layout_of v) ws ≡ n)
  unfolding write_answer
  wrote = done_told _ _ _ _ n e

  wrote_known : known v ≡ true
  wrote_known = edition_known v f ws wrote.0

  wrote_fault : layout_fault (layout_of v) f ws ≡ 0
  wrote_fault = sym (known_fault v f ws wrote_known) ∙ wrote.0

  pub wrote_sound : Sound (layout_of v) f ws
  wrote_sound = sound_of (layout_of v) f ws wrote_fault

  wrote_length : length (written (layout_of v) f ws) ≡ n
  wrote_length = written_length (layout_of v) (lawful_edition v) f ws wrote_sound (omega arith) ∙ wrote.2

  wrote_bytes : take n (write_out v f ws out) ≡ written (layout_of v) f ws
  unfolding write_out
  wrote_bytes =
      ap (take n) (landed_front (write_answer v f ws (length out)) (written (layout_of v) f ws) out n n e wrote_length)
      ∙ take_at (written (layout_of v) f ws) (drop n out) n wrote_length

  -- where the bytes of the record i stand
  pub wrote_record : (i : ℕ) → i < count_in (layout_of v) ws →
      take (record_size (layout_of v)) (drop (header_size + record_size (layout_of v) * i) (write_out v f ws out))
      ≡ pack (record_slots (layout_of v) f) (filled (take (taken_words (layout_of v)) (drop (taken_words (layout_of v) * i) ws)))
  unfolding write_out written sheet_bytes sheet_of records_of
  wrote_record i h =
      let l = layout_of v in
      let m = record_size l in
      let head = pack (header_slots l) (header_values l f (length (map filled (records_of l ws)))) in
      let b : length head ≡ header_size = length_pack _ _ ∙ ap (λ (k : ℕ). k / 8) (header_bits l (lawful_edition v)) in
      ap (λ (bs : List ℕ). take m (drop (header_size + m * i) bs)) (landed_front (write_answer v f ws (length out)) (written l f ws) out n n e wrote_length ∙ append_assoc head _ (drop n out))
      ∙ ap (take m) (past head _ header_size (m * i) b)
      ∙ ap (λ (bs : List ℕ). take m (drop (m * i) (bs ++ drop n out))) (flat_map_lem (pack (record_slots l f)) filled (records_of l ws))
      ∙ flat_at (λ w. pack (record_slots l f) (filled w)) m (λ w. record_length l (lawful_edition v) (sheet_of l f ws) (filled w)) (taken_words l) (count_in l ws) i ws (drop n out) h

-- 1
module _ (v : ℕ) (f : Frame) (ws out room : List ℕ) (n : ℕ) (z : f.rule ≡ 0) (e : write_answer v f ws (length out) ≡ Done n) (h : read_words * count_in (layout_of v) ws ≤ length room) where
  abbrev m : Layout
  m = layout_of v

  abbrev bs : List ℕ
  bs = written m f ws

  same : (read_fault m bs ≡ 0) × (read_frame m bs ≡ f) × (words_in m bs ≡ flat_map (with_blank m) (records_of m ws))
  same = reads_back m (lawful_edition v) f ws (omega arith) (wrote_fault v f ws out n z e)

  -- the bytes state the edition that was asked for
  edition_same : edition_in bs ≡ v
  edition_same =
      edition_kept m (lawful_edition v) bs (kept m bs (fault_read m bs same.0))
      ∙ known_number v (wrote_known v f ws out n z e)

  number_done : read_number m bs (length room) ≡ Done (count_in m ws)
  number_done = read_done m bs room (count_in m ws) same.0 (written_count m (lawful_edition v) f ws (wrote_sound v f ws out n z e) (omega arith)) h

  answer_read : read_answer bs (length room) ≡ record { answer = Done (count_in m ws); edition = v; width = f.width; height = f.height; layers = f.layers }
  unfolding read_answer
  answer_read = rw (edition_same, number_done, same.1)

  out_read : read_out bs room ≡ flat_map (with_blank m) (records_of m ws) ++ drop (read_words * count_in m ws) room
  unfolding read_out
  out_read =
      ap (λ (k : ℕ). landed (read_number (layout_of k) bs (length room)) (words_in (layout_of k) bs) room) edition_same
      ∙ out_done m bs room (count_in m ws) number_done
      ∙ ap (λ (x : List ℕ). x ++ drop (read_words * count_in m ws) room) same.2

pub written_is_read : WrittenIsRead
written_is_read v w h y ws out room n e r =
    let f = frame_of w h y in
    let b = wrote_bytes v f ws out n refl e in (
      ap (λ (bs : List ℕ). read_answer bs (length room)) b ∙ answer_read v f ws out room n refl e r,
      ap (λ (bs : List ℕ). read_out bs room) b ∙ out_read v f ws out room n refl e r,
    )

-- 2
module _ (v : ℕ) (bs out ws : List ℕ) (f : Frame) (z : f.rule ≡ 0) (t : known v ≡ true) (e : layout_fault (layout_of v) f ws ≡ 0) (b : written (layout_of v) f ws ≡ bs) (h : length bs ≤ length out) where
  size_is : write_size (layout_of v) ws ≡ length bs
  size_is = sym (written_length (layout_of v) (lawful_edition v) f ws (sound_of (layout_of v) f ws e) (omega arith)) ∙ ap length b

  write_done : write_answer v f ws (length out) ≡ Done (length bs)
  unfolding write_answer
  write_done = rw size_is (answer_done (write_fault v f ws) (length bs) (length bs) (length out) (known_fault v f ws t ∙ e) h)

  write_bytes : write_out v f ws out ≡ bs ++ drop (length bs) out
  unfolding write_out
  write_bytes =
      landed_front (write_answer v f ws (length out)) (written (layout_of v) f ws) out (length bs) (length bs) write_done (ap length b)
      ∙ ap (λ (x : List ℕ). x ++ drop (length bs) out) b

-- with the edition that was told
module _ (bs room out : List ℕ) (v w h y n : ℕ) (g : Bytes bs) (e : read_answer bs (length room) ≡ record { answer = Done n; edition = v; width = w; height = h; layers = y }) where
  abbrev given : List ℕ
  given = handed_back (layout_of v) (take (read_words * n) (read_out bs room))

  edition_told : edition_in bs ≡ v
  edition_told = (told bs room v w h y n e).1

  abbrev At : Layout → Frame → List ℕ → Type 0
  At l f ws = (written l f (handed_back l ws) ≡ bs) × (layout_fault l f (handed_back l ws) ≡ 0)

  again : At (layout_of v) (frame_of w h y) (take (read_words * n) (read_out bs room))
  again =
      let l = layout_in bs in
      let p = writes_back l (lawful_edition (edition_in bs)) bs g (told_fault bs room v w h y n e) in
      let a : At l (read_frame l bs) (words_in l bs) = (p.0, p.1 (le_of_eq (side_edition (edition_in bs)))) in
      let b : At l (frame_of w h y) (words_in l bs) = subst (λ (f : Frame). At l f (words_in l bs)) (told_frame bs room v w h y n e) a in
      let c : At l (frame_of w h y) (take (read_words * n) (read_out bs room)) = subst (λ (ws : List ℕ). At l (frame_of w h y) ws) (sym (told_words bs room v w h y n e)) b in
      subst (λ (k : ℕ). At (layout_of k) (frame_of w h y) (take (read_words * n) (read_out bs room))) edition_told c

pub read_is_written : ReadIsWritten
read_is_written bs room out v w h y n g e r =
    let a = again bs room out v w h y n g e in
    let t = told_known bs room v w h y n e in (
      write_done v bs out _ (frame_of w h y) refl t a.1 a.0 r,
      write_bytes v bs out _ (frame_of w h y) refl t a.1 a.0 r,
    )

-- 3
pub read_once : ReadOnce
read_once one other room v w h y n g g' e e' o =
    let a = again one room one v w h y n g e in
    let b = again other room other v w h y n g' e' in
    sym a.0 ∙ ap (λ (x : List ℕ). written (layout_of v) (frame_of w h y) (handed_back (layout_of v) (take (read_words * n) x))) o ∙ b.0
