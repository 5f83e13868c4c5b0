-- Of bytes that keep the rules, the fields of the records by the words that the reader gives are the sheet's own. Assumes nothing.
use mathlib.Core.Path.{◌≡◌, refl, ap, ◌∙◌}
use mathlib.Core.Bool.{Bool, true, and-eq-true_iff}
use mathlib.Core.List.{List, [], ◌∷◌, map}
use Prim.Native.Nat.{ℕ}
use lib.ListN.{drop, take}
use Rattle.sheet.specs.Pack.{unpack}
use Rattle.sheet.specs.Layout.{Layout, Frame, header_size, record_size, record_slots}
use Rattle.sheet.specs.Sheet.{parts, all_pass, record_right, read_frame, read_count, records_in, read_sheet, bytes_right}
use Rattle.sheet.specs.Words.{taken_words, filled, worded}
use Rattle.sheet.specs.Reads.{layout_in}
use Rattle.sheet.proofs.Return.{record_values}
use Rattle.sheet.proofs.Alike.{fields_any}
use Rattle.sheet.proofs.Back.{Kept, kept}
use Rattle.sheet.proofs.Words.{filled_worded}
use Rattle.sheet_fields.specs.Fields.{any_frame, bytes_words}
use Rattle.audit_compare.specs.Difference.{fields_of}
use Rattle.audit_compare.specs.Standing.{stated_in}

-- its fields by its words are its own
fields_same : (l : Layout) (f : Frame) (b : List ℕ) → record_right l f (unpack (record_slots l f) b) ≡ true → fields_of l (bytes_words l b) ≡ unpack (record_slots l f) b
fields_same l f b h =
    ap (λ (v : List ℕ). filled (take (taken_words l) (worded l v))) (fields_any l any_frame f b)
    ∙ filled_worded l (unpack (record_slots l f) b) (record_values l f (unpack (record_slots l f) b) h)

-- so of all
map_same : (g h : List ℕ → List ℕ) (p : List ℕ → Bool) → ((x : List ℕ) → p (h x) ≡ true → g x ≡ h x) → (xs : List (List ℕ)) → all_pass p (map h xs) ≡ true → map g xs ≡ map h xs
unfolding all_pass
map_same g h p e [] all = refl
map_same g h p e (x ∷ xs) all =
    let b = (and-eq-true_iff (p (h x)) (all_pass p (map h xs))).0 all in
    rw (e x b.0, map_same g h p e xs b.1)

of_layout : (l : Layout) (bs : List ℕ) → Kept l bs → stated_in l (read_count l bs) (drop header_size bs) ≡ (read_sheet l bs).records
unfolding read_sheet records_in
of_layout l bs k =
    map_same (λ b. fields_of l (bytes_words l b)) (unpack (record_slots l (read_frame l bs))) (record_right l (read_frame l bs)) (fields_same l (read_frame l bs))
    (parts (record_size l) (read_count l bs) (drop header_size bs)) k.records

pub stated_fields : (bs : List ℕ) → bytes_right (layout_in bs) bs ≡ true → stated_in (layout_in bs) (read_count (layout_in bs) bs) (drop header_size bs) ≡ (read_sheet (layout_in bs) bs).records
stated_fields bs h = of_layout (layout_in bs) bs (kept (layout_in bs) bs h)
