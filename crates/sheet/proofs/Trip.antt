-- The return trip of a whole sheet, for every lawful layout: what is written is read again, and accepted. Assumes nothing.
use mathlib.Core.Path.{◌≡◌, refl, ap, ◌∙◌}
use mathlib.Core.Bool.{true, and-eq-true_iff}
use mathlib.Core.List.{List, flat_map}
use Prim.Native.Nat.{ℕ, ◌+◌, ◌-◌, ◌*◌, ◌/◌, ◌≤◌}
use native.Mathlib.Omega.{arith}
use borrow.Author.Tests.{leb-true, eq-eqb, le-leb}
use lib.ListN.{length, take, drop, length-append}
use lib.Seq.{take_at, drop_at}
use Rattle.sheet.specs.Pack.{pack, unpack, sound}
use Rattle.sheet.specs.Layout.{Layout, Frame, header_size, header_slots, header_values, record_slots, record_size}
use Rattle.sheet.specs.Sheet.{Sheet, all_pass, record_right, sheet_right, sheet_bytes, header_in, read_frame, read_count, records_in, read_sheet, bytes_right}
use Rattle.sheet.proofs.Packed.{held, length_pack, unpack_pack, held_head, held_tail}
use Rattle.sheet.specs.Trip.{Lawful}
use Rattle.sheet.proofs.Lawful.{Framed, header_bits, record_bits, header_roomy, right_held}
use Rattle.sheet.proofs.Parts.{map_back, length_flat, parts_flat}

eight : (k : ℕ) → 8 * k / 8 ≡ k
eight k = omega arith

module _ (l : Layout) (k : Lawful l) (s : Sheet) where
  -- the header's part of the bytes, and the rest
  unfoldable head : List ℕ
  head = pack (header_slots l) (header_values l s.frame (length s.records))

  unfoldable rest : List ℕ
  rest = flat_map (pack (record_slots l s.frame)) s.records

  head_length : length head ≡ header_size
  unfolding head
  head_length = length_pack _ _ ∙ ap (λ (n : ℕ). n / 8) (header_bits l k)

  -- the four parts of the sheet's rule
  pub record Right : Type 0 where
    pub width : 1 ≤ s.frame.width
    pub height : 1 ≤ s.frame.height
    pub header : sound (header_slots l) (header_values l s.frame (length s.records)) ≡ true
    pub records : all_pass (record_right l s.frame) s.records ≡ true

  pub right : sheet_right l s ≡ true → Right
  unfolding sheet_right
  right h =
      let a = (and-eq-true_iff _ _).0 h in
      let b = (and-eq-true_iff _ _).0 a.0 in
      let c = (and-eq-true_iff _ _).0 b.0 in
      record { width = leb-true _ _ c.0; height = leb-true _ _ c.1; header = b.1; records = a.1 }

  front : take header_size (sheet_bytes l s) ≡ head
  unfolding sheet_bytes head rest
  front = take_at head rest header_size head_length

  back : drop header_size (sheet_bytes l s) ≡ rest
  unfolding sheet_bytes head rest
  back = drop_at head rest header_size head_length

  pub read_header : Right → header_in l (sheet_bytes l s) ≡ header_values l s.frame (length s.records)
  unfolding header_in head
  read_header p = rw front (unpack_pack _ _ header_size (header_bits l k) (held _ _ (header_roomy l k) p.header))

  pub read_frame_lem : Right → read_frame l (sheet_bytes l s) ≡ s.frame
  unfolding read_frame
  read_frame_lem p =
      let w : s.frame.width - 1 + 1 ≡ s.frame.width = omega (arith, p.width) in
      let h : s.frame.height - 1 + 1 ≡ s.frame.height = omega (arith, p.height) in
      rw (read_header p, w, h)

  pub read_count_lem : Right → read_count l (sheet_bytes l s) ≡ length s.records
  unfolding read_count
  read_count_lem p = rw (read_header p)

  pub framed : Right → Framed l s.frame
  framed p =
      let h = held _ _ (header_roomy l k) p.header in
      let t = held_tail h in
      let u = held_tail t in
      record { width = held_head t; height = held_head u; layers = omega (arith, held_head (held_tail u)) }

  pub record_length : (v : List ℕ) → length (pack (record_slots l s.frame) v) ≡ record_size l
  record_length v = length_pack (record_slots l s.frame) v ∙ ap (λ (n : ℕ). n / 8) (record_bits l s.frame k) ∙ eight (record_size l)

  pub read_records : Right → (read_sheet l (sheet_bytes l s)).records ≡ s.records
  unfolding read_sheet records_in rest
  read_records p =
      rw (
        read_frame_lem p,
        read_count_lem p,
        back,
        parts_flat (record_size l) (pack (record_slots l s.frame)) (record_right l s.frame) (λ v h. record_length v) s.records p.records,
      )
      (map_back (unpack (record_slots l s.frame)) (pack (record_slots l s.frame)) (record_right l s.frame)
      (λ v h. unpack_pack _ _ _ (record_bits l s.frame k) (right_held l s.frame (framed p) v h)) s.records p.records)

  pub sheet_length : Right → length (sheet_bytes l s) ≡ header_size + record_size l * length s.records
  unfolding sheet_bytes head rest
  sheet_length p =
      length-append head rest
      ∙ rw (head_length, length_flat (record_size l) (pack (record_slots l s.frame)) (record_right l s.frame) (λ v h. record_length v) s.records p.records)

  pub read_right : Right → bytes_right l (sheet_bytes l s) ≡ true
  unfolding bytes_right
  read_right p =
      let n = sheet_length p in
      rw (read_header p, read_frame_lem p, read_records p, read_count_lem p, p.header, p.records, le-leb header_size (length (sheet_bytes l s)) (omega arith), eq-eqb _ _ n)

same_sheet : (a b : Sheet) → a.frame ≡ b.frame → a.records ≡ b.records → a ≡ b
same_sheet a b p q =
    ap (λ (f : Frame). record { frame = f; records = a.records }) p
    ∙ ap (λ (vs : List (List ℕ)). record { frame = b.frame; records = vs }) q

frame_of_lem : (l : Layout) (bs : List ℕ) → (read_sheet l bs).frame ≡ read_frame l bs
unfolding read_sheet
frame_of_lem l bs = refl

-- THE RETURN TRIP: what is written in any lawful layout is read again
pub trip : (l : Layout) → Lawful l → (s : Sheet) → sheet_right l s ≡ true → read_sheet l (sheet_bytes l s) ≡ s
trip l k s h =
    let p = right l k s h in
    same_sheet _ _ (frame_of_lem l (sheet_bytes l s) ∙ read_frame_lem l k s p) (read_records l k s p)

-- and keeps the rules of bytes
pub accepted : (l : Layout) → Lawful l → (s : Sheet) → sheet_right l s ≡ true → bytes_right l (sheet_bytes l s) ≡ true
accepted l k s h = read_right l k s (right l k s h)
