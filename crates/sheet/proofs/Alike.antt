-- Only the widths of slots matter for the bytes of values and the fields of bytes, so those of a record don't depend on the frame. Assumes nothing.
use mathlib.Core.Path.{◌≡◌, refl, ap, ◌∙◌, subst}
use mathlib.Core.List.{List, [], ◌∷◌, ◌++◌, map, flat_map}
use Prim.Native.Nat.{ℕ, ◌/◌, ◌%◌, ◌^◌, ◌<◌}
use lib.ListN.{length, length-map}
use Rattle.sheet.specs.Pack.{Slot, bits, number, bytes, pack, value, fields, unpack, Held}
use Rattle.sheet.specs.Pack.Held.{none, one}
use Rattle.sheet.specs.Layout.{Layout, Frame, header_size, header_slots, header_values, head_slots, record_slots}
use Rattle.sheet.specs.Sheet.{sheet_bytes}
use Rattle.sheet.specs.Words.{taken_words, filled}
use Rattle.sheet.specs.Writes.{count_in, records_of, sheet_of, written}
use Rattle.sheet.specs.Trip.{Lawful}
use Rattle.sheet.proofs.Lawful.{header_bits}
use Rattle.sheet.proofs.Parts.{length_parts, flat_map_lem}

data Alike : List Slot → List Slot → Type 0 where
  ends : Alike [] []
  more : {s t : Slot} {ss ts : List Slot} → s.width ≡ t.width → Alike ss ts → Alike (s ∷ ss) (t ∷ ts)

alike_same : (ss : List Slot) → Alike ss ss
alike_same [] = ends
alike_same (s ∷ ss) = more refl (alike_same ss)

record_alike : (l : Layout) (f g : Frame) → Alike (record_slots l f) (record_slots l g)
unfolding record_slots
record_alike l f g = more refl (more refl (more refl (more refl (alike_same _))))

alike_bits : {ss ts : List Slot} → Alike ss ts → bits ss ≡ bits ts
unfolding bits
alike_bits ends = refl
alike_bits (more e a) = rw (e, alike_bits a)

alike_number : {ss ts : List Slot} → Alike ss ts → (vs : List ℕ) → number ss vs ≡ number ts vs
unfolding number
alike_number ends vs = refl
alike_number (more e a) [] = refl
alike_number (more e a) (v ∷ vs) = rw (alike_bits a, alike_number a vs)

alike_fields : {ss ts : List Slot} → Alike ss ts → (n : ℕ) → fields ss n ≡ fields ts n
unfolding fields
alike_fields ends n = refl
alike_fields (more {ts = ts} e a) n = rw (alike_bits a, alike_fields a (n % 2 ^ bits ts))

alike_held : {ss ts : List Slot} {vs : List ℕ} → Alike ss ts → Held ss vs → Held ts vs
alike_held ends none = none
alike_held (more e a) (one {v = v} h k) = one (subst (λ (n : ℕ). v < 2 ^ n) e h) (alike_held a k)

module _ (l : Layout) (f g : Frame) where
  pub held_any : (vs : List ℕ) → Held (record_slots l f) vs → Held (record_slots l g) vs
  held_any vs h = alike_held (record_alike l f g) h

  pub bytes_any : (vs : List ℕ) → pack (record_slots l f) vs ≡ pack (record_slots l g) vs
  unfolding pack
  bytes_any vs = rw (alike_bits (record_alike l f g), alike_number (record_alike l f g) vs)

  pub fields_any : (bs : List ℕ) → unpack (record_slots l f) bs ≡ unpack (record_slots l g) bs
  unfolding unpack
  fields_any bs = alike_fields (record_alike l f g) (value bs)

  pub head_any : (bs : List ℕ) → unpack (head_slots l f) bs ≡ unpack (head_slots l g) bs
  unfolding unpack
  head_any bs = alike_fields (more refl (more refl (more refl (more refl (alike_same _))))) (value bs)

pub flat_same : (p q : List ℕ → List ℕ) → ((x : List ℕ) → p x ≡ q x) → (xs : List (List ℕ)) → flat_map p xs ≡ flat_map q xs
unfolding flat_map
flat_same p q e [] = refl
flat_same p q e (x ∷ xs) = rw (e x, flat_same p q e xs)

header_bytes : (l : Layout) → Lawful l → (vs : List ℕ) → pack (header_slots l) vs ≡ bytes header_size (number (header_slots l) vs)
unfolding pack
header_bytes l k vs = ap (λ (n : ℕ). bytes (n / 8) (number (header_slots l) vs)) (header_bits l k)

-- what the writer makes of words, with its records in another frame
pub written_is : (l : Layout) → Lawful l → (f g : Frame) (ws : List ℕ) →
    written l f ws ≡ bytes header_size (number (header_slots l) (header_values l f (count_in l ws))) ++ flat_map (λ w. pack (record_slots l g) (filled w)) (records_of l ws)
unfolding written sheet_bytes sheet_of records_of
written_is l k f g ws =
    let n : length (map filled (records_of l ws)) ≡ count_in l ws = length-map (records_of l ws) filled ∙ length_parts (taken_words l) (count_in l ws) ws in
    ap (λ (m : ℕ). pack (header_slots l) (header_values l f m) ++ flat_map (pack (record_slots l f)) (map filled (records_of l ws))) n
    ∙ ap (λ (bs : List ℕ). bs ++ flat_map (pack (record_slots l f)) (map filled (records_of l ws))) (header_bytes l k (header_values l f (count_in l ws)))
    ∙ ap (λ (bs : List ℕ). bytes header_size (number (header_slots l) (header_values l f (count_in l ws))) ++ bs)
    (flat_map_lem (pack (record_slots l f)) filled (records_of l ws) ∙ flat_same _ _ (λ w. bytes_any l f g (filled w)) (records_of l ws))
