-- The return trip in words, for every lawful layout. Assumes nothing.
use mathlib.Core.Path.{◌≡◌, refl, sym, ap, ◌∙◌, subst}
use mathlib.Core.Bool.{Bool, true, false, not, cond}
use mathlib.Core.List.{List, [], ◌∷◌, map, flat_map}
use Prim.Native.Nat.{ℕ, ◌-◌, ◌*◌, ◌/◌, ◌%◌, ◌^◌, ◌≤◌, ◌<◌}
use native.Mathlib.Nat.{mul_comm, div-mul-le_self, mul-div_right, mul-mod_right}
use native.Mathlib.Omega.{arith}
use borrow.Author.Tests.{le-leb}
use lib.Dec.{lit≤, lit<}
use lib.ListN.{length, get_or, take, length-take, length-map, get_or-append}
use lib.Seq.{get_or-take}
use lib.Pow.{pow_pos}
use Rattle.params.specs.Limits.{max_side, max_layers}
use Rattle.params.specs.Table.{line, first_fault}
use Rattle.sheet.specs.Pack.{slot, sound, Bytes}
use Rattle.sheet.specs.Layout.{Layout, Frame, top_rule, max_count, header_slots, header_values, record_slots}
use Rattle.sheet.specs.Sheet.{parts, all_pass, record_right, sheet_right, sheet_bytes, header_in, read_frame, read_count, read_sheet, bytes_right}
use Rattle.sheet.specs.Words.{plain_words, read_words, head_words, taken_words, layer_place, filled, worded, with_blank}
use Rattle.sheet.specs.Writes.{count_in, records_of, sheet_of, layer_right, records_layered, words_right, layout_fault, written}
use Rattle.sheet.specs.Reads.{read_fault, words_in}
use Rattle.sheet.specs.Trip.{Lawful, handed_back, ReadsBack, WritesBack, ReadsOnce}
use Rattle.sheet.proofs.Packed.{sound_at, sound_length}
use Rattle.sheet.proofs.Lawful.{right_sound}
use Rattle.sheet.proofs.Parts.{length_parts, pass_map, pass_both, flat_map_lem, map_back, length_flat, parts_flat, parts_same}
use Rattle.sheet.proofs.Trip.{accepted, right, read_frame_lem, read_records}
use Rattle.sheet.proofs.Back.{four, Kept, kept, count_read, back}
use Rattle.sheet.proofs.Words.{field_count, Values, worded_filled, filled_worded, length_worded}
use Rattle.sheet.proofs.Faults.{Sound, sound_of, fault_none}

pub taken_plain : (m : Bool) → plain_words ≤ cond m read_words plain_words
taken_plain true = lit≤ tt
taken_plain false = lit≤ tt

pub whole_records : (l : Layout) (ws : List ℕ) → taken_words l * count_in l ws ≤ length ws
whole_records l ws = rw mul_comm (div-mul-le_self (length ws) (taken_words l))

-- the reader's one fault
pub read_fault_lem : (l : Layout) (bs : List ℕ) → bytes_right l bs ≡ true → read_fault l bs ≡ 0
unfolding read_fault first_fault
read_fault_lem l bs h = rw h

given : (b : Bool) → first_fault (line 8 (not b) ∷ []) ≡ 0 → b ≡ true
unfolding first_fault
given true e = refl
given false e = absurd (omega arith)

pub fault_read : (l : Layout) (bs : List ℕ) → read_fault l bs ≡ 0 → bytes_right l bs ≡ true
unfolding read_fault
fault_read l bs e = given (bytes_right l bs) e

module _ (l : Layout) (f : Frame) (ws : List ℕ) where
  pub header_sound : (n : ℕ) → Sound l f ws → f.rule ≤ top_rule l → n ≡ count_in l ws → sound (header_slots l) (header_values l f n) ≡ true
  unfolding sound
  header_sound n s r e =
      let p = s.count in
      rw (
        le-leb l.edition l.edition (omega arith),
        le-leb 0 (f.width - 1) (omega arith),
        le-leb (f.width - 1) (2 ^ l.side - 1) (omega (arith, s.width_high)),
        le-leb 0 (f.height - 1) (omega arith),
        le-leb (f.height - 1) (2 ^ l.side - 1) (omega (arith, s.height_high)),
        le-leb 1 f.layers s.layers_low,
        le-leb f.layers 15 s.layers_high,
        le-leb 0 n (omega arith),
        le-leb n max_count (omega arith),
        le-leb 0 f.rule (omega arith),
        le-leb f.rule (top_rule l) r,
      )

  -- no fault: the words make a right sheet
  pub sheet_right_lem : Sound l f ws → f.rule ≤ top_rule l → sheet_right l (sheet_of l f ws) ≡ true
  unfolding sheet_right sheet_of records_of
  sheet_right_lem s r =
      let n : length (map filled (records_of l ws)) ≡ count_in l ws = length-map (records_of l ws) filled ∙ length_parts (taken_words l) (count_in l ws) ws in
      four _ _ _ _ (le-leb _ _ s.width_low) (le-leb _ _ s.height_low) (header_sound _ s r n) (pass_map (record_right l f) filled (records_of l ws) ∙ s.records)

  words_back : flat_map (worded l) (map filled (records_of l ws)) ≡ flat_map (with_blank l) (records_of l ws)
  unfolding records_of
  words_back =
      flat_map_lem (worded l) filled (records_of l ws)
      ∙ parts_same (taken_words l) (λ w. worded l (filled w)) (with_blank l) (λ w e. worded_filled l w (subst (λ (n : ℕ). plain_words ≤ n) (sym e) (taken_plain l.marked))) (count_in l ws) ws (whole_records l ws)

  pub words_trip : Lawful l → Sound l f ws → f.rule ≤ top_rule l → words_in l (written l f ws) ≡ flat_map (with_blank l) (records_of l ws)
  unfolding words_in written sheet_of
  words_trip k s r = ap (flat_map (worded l)) (read_records l k (sheet_of l f ws) (right l k (sheet_of l f ws) (sheet_right_lem s r))) ∙ words_back

  pub frame_trip : Lawful l → Sound l f ws → f.rule ≤ top_rule l → read_frame l (written l f ws) ≡ f
  unfolding written sheet_of
  frame_trip k s r = read_frame_lem l k (sheet_of l f ws) (right l k (sheet_of l f ws) (sheet_right_lem s r))

  pub fault_trip : Lawful l → Sound l f ws → f.rule ≤ top_rule l → read_fault l (written l f ws) ≡ 0
  unfolding written
  fault_trip k s r = read_fault_lem l _ (accepted l k (sheet_of l f ws) (sheet_right_lem s r))

-- 1
pub reads_back : (l : Layout) → Lawful l → ReadsBack l
reads_back l k f ws r e =
    let s = sound_of l f ws e in
    (fault_trip l f ws k s r, frame_trip l f ws k s r, words_trip l f ws k s r)

-- what a right record says of its values
pub record_values : (l : Layout) (f : Frame) (v : List ℕ) → record_right l f v ≡ true → Values l v
unfolding record_slots
record_values l f v h =
    let e = right_sound l f v h in
    let z = (sound_at (record_slots l f) v (slot 0 0 0) e 6 (lit< tt)).1 in
    record {
      length_is = sound_length (record_slots l f) v e;
      blank = (sound_at (record_slots l f) v (slot 0 0 0) e 5 (lit< tt)).1;
      zeros = omega arith;
    }

record_layer : (l : Layout) (f : Frame) (v : List ℕ) → record_right l f v ≡ true → (1 ≤ get_or v layer_place 0) × (get_or v layer_place 0 ≤ f.layers)
unfolding record_slots
record_layer l f v h = sound_at (record_slots l f) v (slot 0 0 0) (right_sound l f v h) layer_place (lit< tt)

pub taken_pos : (m : Bool) → 0 < cond m read_words plain_words
taken_pos true = lit< tt
taken_pos false = lit< tt

pub taken_read : (m : Bool) → cond m read_words plain_words ≤ read_words
taken_read true = lit≤ tt
taken_read false = lit≤ tt

layer_at : (l : Layout) (v : List ℕ) → length v ≡ field_count → get_or (take (taken_words l) (worded l v)) layer_place 0 ≡ get_or v layer_place 0
unfolding worded
layer_at l v e =
    let m = taken_plain l.marked in
    get_or-take (taken_words l) (worded l v) layer_place 0 (omega arith)
    ∙ get_or-append (take head_words v) _ 0 layer_place (rw length-take (omega arith))
    ∙ get_or-take head_words v layer_place 0 (lit< tt)

-- the words of right records, as the reader gives them, and as the writer takes them
module _ (l : Layout) (f : Frame) (vs : List (List ℕ)) (h : all_pass (record_right l f) vs ≡ true) where
  pub long : (v : List ℕ) → record_right l f v ≡ true → length (worded l v) ≡ read_words
  long v e = length_worded l v (record_values l f v e).length_is

  short : (v : List ℕ) → record_right l f v ≡ true → length (take (taken_words l) (worded l v)) ≡ taken_words l
  short v e =
      let n = long v e in
      let m = taken_read l.marked in
      rw length-take (omega arith)

  unfoldable plain : List ℕ
  plain = flat_map (λ v. take (taken_words l) (worded l v)) vs

  given_back_lem : handed_back l (flat_map (worded l) vs) ≡ plain
  unfolding handed_back plain
  given_back_lem =
      let n : length (flat_map (worded l) vs) / read_words ≡ length vs = ap (λ (k : ℕ). k / read_words) (length_flat read_words (worded l) (record_right l f) long vs h) ∙ mul-div_right (length vs) (lit< tt) in
      ap (λ (k : ℕ). flat_map (take (taken_words l)) (parts read_words k (flat_map (worded l) vs))) n
      ∙ ap (flat_map (take (taken_words l))) (parts_flat read_words (worded l) (record_right l f) long vs h)
      ∙ flat_map_lem (take (taken_words l)) (worded l) vs

  plain_length : length plain ≡ taken_words l * length vs
  unfolding plain
  plain_length = length_flat (taken_words l) (λ v. take (taken_words l) (worded l v)) (record_right l f) short vs h

  plain_count : count_in l plain ≡ length vs
  plain_count = ap (λ (k : ℕ). k / taken_words l) plain_length ∙ mul-div_right (length vs) (taken_pos l.marked)

  plain_whole : length plain % taken_words l ≡ 0
  plain_whole = ap (λ (k : ℕ). k % taken_words l) plain_length ∙ mul-mod_right (taken_words l) (length vs)

  parts_plain : parts (taken_words l) (length vs) plain ≡ map (λ v. take (taken_words l) (worded l v)) vs
  unfolding plain
  parts_plain = parts_flat (taken_words l) (λ v. take (taken_words l) (worded l v)) (record_right l f) short vs h

  plain_records : records_of l plain ≡ map (λ v. take (taken_words l) (worded l v)) vs
  unfolding records_of
  plain_records = ap (λ (k : ℕ). parts (taken_words l) k plain) plain_count ∙ parts_plain

  -- they make the records again
  plain_sheet : sheet_of l f plain ≡ record { frame = f; records = vs }
  unfolding sheet_of
  plain_sheet = ap (λ (rs : List (List ℕ)). record { frame = f; records = rs })
      (ap (map filled) plain_records ∙ map_back filled (λ v. take (taken_words l) (worded l v)) (record_right l f) (λ v e. filled_worded l v (record_values l f v e)) vs h)

  plain_layers : all_pass (layer_right f.layers) (records_of l plain) ≡ true
  plain_layers =
      ap (all_pass (layer_right f.layers)) plain_records
      ∙ pass_map (layer_right f.layers) (λ v. take (taken_words l) (worded l v)) vs
      ∙ pass_both (record_right l f) (λ v. layer_right f.layers (take (taken_words l) (worded l v))) layer_back vs h where
        layer_back : (v : List ℕ) → record_right l f v ≡ true → layer_right f.layers (take (taken_words l) (worded l v)) ≡ true
        layer_back v e =
            let a = record_layer l f v e in
            rw (layer_at l v (record_values l f v e).length_is, le-leb _ _ a.0, le-leb _ _ a.1)

  plain_right : all_pass (words_right l f) (records_of l plain) ≡ true
  plain_right =
      ap (all_pass (words_right l f)) plain_records
      ∙ pass_map (words_right l f) (λ v. take (taken_words l) (worded l v)) vs
      ∙ pass_both (record_right l f) (λ v. record_right l f (filled (take (taken_words l) (worded l v)))) (λ v e. ap (record_right l f) (filled_worded l v (record_values l f v e)) ∙ e) vs h

-- of bytes that the reader accepts
module _ (l : Layout) (bs : List ℕ) (p : Kept l bs) where
  words_read : handed_back l (words_in l bs) ≡ plain l (read_frame l bs) (read_sheet l bs).records p.records
  unfolding words_in
  words_read = given_back_lem l (read_frame l bs) (read_sheet l bs).records p.records

  sheet_same : record { frame = read_frame l bs; records = (read_sheet l bs).records } ≡ read_sheet l bs
  unfolding read_sheet
  sheet_same = refl

  pub bytes_trip : Lawful l → Bytes bs → written l (read_frame l bs) (handed_back l (words_in l bs)) ≡ bs
  unfolding written
  bytes_trip k g =
      ap (λ (ws : List ℕ). sheet_bytes l (sheet_of l (read_frame l bs) ws)) words_read
      ∙ ap (sheet_bytes l) (plain_sheet l (read_frame l bs) (read_sheet l bs).records p.records ∙ sheet_same)
      ∙ back l bs k g p

  frame_ranges : ((read_frame l bs).width ≤ 2 ^ l.side) × ((read_frame l bs).height ≤ 2 ^ l.side) × (1 ≤ (read_frame l bs).layers) × ((read_frame l bs).layers ≤ max_layers) × (read_count l bs ≤ max_count)
  unfolding read_frame read_count
  frame_ranges =
      let a = (sound_at (header_slots l) (header_in l bs) (slot 0 0 0) p.header 1 (lit< tt)).1 in
      let b = (sound_at (header_slots l) (header_in l bs) (slot 0 0 0) p.header 2 (lit< tt)).1 in
      let c = sound_at (header_slots l) (header_in l bs) (slot 0 0 0) p.header 3 (lit< tt) in
      let d = (sound_at (header_slots l) (header_in l bs) (slot 0 0 0) p.header 4 (lit< tt)).1 in
      let s = pow_pos l.side in
      (omega arith, omega arith, c.0, c.1, d)

  sides_low : (1 ≤ (read_frame l bs).width) × (1 ≤ (read_frame l bs).height)
  unfolding read_frame
  sides_low = (omega arith, omega arith)

  sound_read : Sound l (read_frame l bs) (handed_back l (words_in l bs))
  sound_read =
      let f = read_frame l bs in
      let vs = (read_sheet l bs).records in
      let r = frame_ranges in
      let q = plain_count l f vs p.records ∙ count_read l bs in
      record {
        width_low = sides_low.0;
        width_high = r.0;
        height_low = sides_low.1;
        height_high = r.1;
        layers_low = r.2;
        layers_high = r.3;
        whole = ap (λ (ws : List ℕ). length ws % taken_words l) words_read ∙ plain_whole l f vs p.records;
        count = subst (λ (ws : List ℕ). count_in l ws ≤ max_count) (sym words_read) (subst (λ (n : ℕ). n ≤ max_count) (sym q) r.4);
        records = ap (λ (ws : List ℕ). all_pass (words_right l f) (records_of l ws)) words_read ∙ plain_right l f vs p.records;
      }

  pub fault_back : 2 ^ l.side ≤ max_side → layout_fault l (read_frame l bs) (handed_back l (words_in l bs)) ≡ 0
  fault_back m =
      let f = read_frame l bs in
      let vs = (read_sheet l bs).records in
      let r = frame_ranges in
      fault_none l f (handed_back l (words_in l bs)) sound_read (omega (arith, r.0)) (omega (arith, r.1))
      (ap (λ (ws : List ℕ). records_layered l f ws) words_read ∙ plain_layers l f vs p.records)

-- 2
pub writes_back : (l : Layout) → Lawful l → WritesBack l
writes_back l k bs g e =
    let p = kept l bs (fault_read l bs e) in
    (bytes_trip l bs p k g, fault_back l bs p)

-- 3
pub reads_once : (l : Layout) → Lawful l → ReadsOnce l
reads_once l k cs bs gc gb ec eb f w =
    sym (writes_back l k cs gc ec).0
    ∙ ap (λ (x : Frame). written l x (handed_back l (words_in l cs))) f
    ∙ ap (λ (ws : List ℕ). written l (read_frame l bs) (handed_back l ws)) w
    ∙ (writes_back l k bs gb eb).0
