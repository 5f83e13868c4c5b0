-- The other way round, for every lawful layout: bytes that keep the rules are a right sheet's, and are written again as they were. Assumes nothing.
use mathlib.Core.Path.{◌≡◌, refl, ap, ◌∙◌}
use mathlib.Core.Bool.{Bool, true, false, ◌&&◌}
use mathlib.Core.List.{List, [], ◌∷◌, map, flat_map}
use Prim.Native.Nat.{ℕ, zero, suc, ◌+◌, ◌-◌, ◌*◌, ◌≤◌}
use native.Mathlib.Nat.{mul-zero, mul-suc}
use native.Mathlib.Omega.{arith}
use borrow.Author.Tests.{le-leb, leb-true, eqb-true}
use lib.Dec.{leb, eqb}
use lib.ListN.{length, take, drop, length-map, length-take, length-drop, take-append-drop}
use Rattle.sheet.specs.Pack.{Slot, bits, pack, unpack, fields, sound, Bytes}
use Rattle.sheet.specs.Layout.{Layout, header_size, header_slots, header_values, record_slots, record_size}
use Rattle.sheet.specs.Sheet.{parts, all_pass, record_right, sheet_right, sheet_bytes, header_in, read_frame, read_count, records_in, read_sheet, bytes_right}
use Rattle.sheet.proofs.Packed.{pack_unpack, ranged, ranged_head, ranged_tail}
use Rattle.sheet.proofs.Cut.{bytes_take, bytes_drop}
use Rattle.sheet.specs.Trip.{Lawful}
use Rattle.sheet.proofs.Lawful.{record_bits, header_bits}
use Rattle.sheet.proofs.Parts.{length_parts}

-- parts of whole records are joined again
parts_joined : (ss : List Slot) (k n : ℕ) (bs : List ℕ) → bits ss ≡ 8 * k → length bs ≡ k * n → Bytes bs →
    flat_map (pack ss) (map (unpack ss) (parts k n bs)) ≡ bs
unfolding flat_map parts
parts_joined ss k zero [] e l g = refl
parts_joined ss k zero (b ∷ bs) e l g = absurd (omega (arith, mul-zero k))
parts_joined ss k (suc n) bs e l g =
    let m : k * suc n ≡ k * n + k = mul-suc k n in
    let t : length (take k bs) ≡ k = rw length-take (omega arith) in
    rw (
      pack_unpack ss (take k bs) (rw t e) (bytes_take k bs g),
      parts_joined ss k n (drop k bs) e (rw length-drop (omega arith)) (bytes_drop k bs g),
      take-append-drop,
    )

-- a sound header's values, from what is read of them
values_are : (l : Layout) (e w h y n r z : ℕ) → sound (header_slots l) (e ∷ w ∷ h ∷ y ∷ n ∷ r ∷ z ∷ []) ≡ true →
    header_values l (record { width = w + 1; height = h + 1; layers = y; rule = r }) n ≡ e ∷ w ∷ h ∷ y ∷ n ∷ r ∷ z ∷ []
values_are l e w h y n r z s =
    let o = ranged (header_slots l) (e ∷ w ∷ h ∷ y ∷ n ∷ r ∷ z ∷ []) s in
    let a = ranged_head o in
    let m = ranged_head (ranged_tail (ranged_tail (ranged_tail (ranged_tail (ranged_tail (ranged_tail o)))))) in
    let p : l.edition ≡ e = omega (arith, a.0, a.1) in
    let q : 0 ≡ z = omega (arith, m.1) in
    let t : w + 1 - 1 ≡ w = omega arith in
    let u : h + 1 - 1 ≡ h = omega arith in
    ap (λ (x : ℕ). x ∷ (w + 1 - 1) ∷ (h + 1 - 1) ∷ y ∷ n ∷ r ∷ 0 ∷ []) p
    ∙ rw (t, u) (ap (λ (x : ℕ). e ∷ w ∷ h ∷ y ∷ n ∷ r ∷ x ∷ []) q)

header_values_lem : (l : Layout) (bs : List ℕ) → sound (header_slots l) (header_in l bs) ≡ true → header_values l (read_frame l bs) (read_count l bs) ≡ header_in l bs
unfolding read_frame read_count header_in unpack fields
header_values_lem l bs h = values_are l _ _ _ _ _ _ _ h

all4 : (a b c d : Bool) → (a && b && c && d) ≡ true → (a ≡ true) × (b ≡ true) × (c ≡ true) × (d ≡ true)
all4 true true true true e = (refl, refl, refl, refl)
all4 true true true false e = absurd (let z : ◌≡◌ {A = ℕ} 0 1 = cc in omega arith)
all4 true true false d e = absurd (let z : ◌≡◌ {A = ℕ} 0 1 = cc in omega arith)
all4 true false c d e = absurd (let z : ◌≡◌ {A = ℕ} 0 1 = cc in omega arith)
all4 false b c d e = absurd (let z : ◌≡◌ {A = ℕ} 0 1 = cc in omega arith)

pub four : (a b c d : Bool) → a ≡ true → b ≡ true → c ≡ true → d ≡ true → (a && b && c && d) ≡ true
four a b c d p q r s = rw (p, q, r, s)

module _ (l : Layout) (bs : List ℕ) where
  -- the four parts of the rule of bytes
  pub record Kept : Type 0 where
    pub long : header_size ≤ length bs
    pub header : sound (header_slots l) (header_in l bs) ≡ true
    pub exact : length bs ≡ header_size + record_size l * read_count l bs
    pub records : all_pass (record_right l (read_frame l bs)) (read_sheet l bs).records ≡ true

  pub kept : bytes_right l bs ≡ true → Kept
  unfolding bytes_right
  kept h =
      let c = all4 (leb header_size (length bs)) (sound (header_slots l) (header_in l bs)) (eqb (length bs) (header_size + record_size l * read_count l bs))
      (all_pass (record_right l (read_frame l bs)) (read_sheet l bs).records) h in
      record { long = leb-true _ _ c.0; header = c.1; exact = eqb-true _ _ c.2; records = c.3 }

  pub count_read : length (read_sheet l bs).records ≡ read_count l bs
  unfolding read_sheet records_in
  count_read = length-map (parts (record_size l) (read_count l bs) (drop header_size bs)) (unpack (record_slots l (read_frame l bs))) ∙ length_parts (record_size l) (read_count l bs) (drop header_size bs)

  header_read : Kept → header_values l (read_sheet l bs).frame (length (read_sheet l bs).records) ≡ header_in l bs
  unfolding read_sheet
  header_read p = ap (header_values l (read_frame l bs)) count_read ∙ header_values_lem l bs p.header

  sides_read : (1 ≤ (read_sheet l bs).frame.width) × (1 ≤ (read_sheet l bs).frame.height)
  unfolding read_sheet read_frame
  sides_read = (omega arith, omega arith)

  records_read : Kept → all_pass (record_right l (read_sheet l bs).frame) (read_sheet l bs).records ≡ true
  unfolding read_sheet
  records_read p = p.records

  -- what is read of such bytes is a right sheet
  pub sheet_read : Kept → sheet_right l (read_sheet l bs) ≡ true
  unfolding sheet_right
  sheet_read p =
      four _ _ _ _ (le-leb _ _ sides_read.0) (le-leb _ _ sides_read.1) (ap (sound (header_slots l)) (header_read p) ∙ p.header) (records_read p)

  -- THE OTHER WAY ROUND: and is written again byte for byte
  pub back : Lawful l → Bytes bs → Kept → sheet_bytes l (read_sheet l bs) ≡ bs
  unfolding sheet_bytes header_in read_sheet records_in
  back k g p =
      let n = p.exact in
      let o = p.long in
      let t : length (take header_size bs) ≡ header_size = rw length-take (omega arith) in
      let d : length (drop header_size bs) ≡ record_size l * read_count l bs = rw length-drop (omega arith) in
      rw (
        header_read p,
        pack_unpack (header_slots l) (take header_size bs) (rw t (header_bits l k)) (bytes_take header_size bs g),
        parts_joined (record_slots l (read_frame l bs)) (record_size l) (read_count l bs) (drop header_size bs) (record_bits l (read_frame l bs) k) d (bytes_drop header_size bs g),
      )
      (take-append-drop header_size bs)
