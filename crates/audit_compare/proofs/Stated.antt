-- The records that a sheet states, one by one, and whether all are of an octave. Assumes nothing.
use mathlib.Core.Path.{◌≡◌, ap, ◌∙◌}
use mathlib.Core.List.{List, [], ◌++◌, map, append-nil}
use Prim.Native.Nat.{ℕ, zero, suc, ◌+◌, ◌-◌, ◌*◌, ◌≤◌, ◌<◌}
use native.Mathlib.Nat.{not-suc-le-zero, le_of_suc-le-suc, mul-zero, mul-suc}
use native.Mathlib.Omega.{arith}
use lib.ListN.{length, get_or, take, drop, length-map, drop_of_length-le}
use lib.Seq.{drop-drop}
use Rattle.lists.specs.Pasted.{pasted}
use Rattle.sheet.specs.Layout.{Layout, record_size, record_slots}
use Rattle.sheet.specs.Pack.{unpack}
use Rattle.sheet.specs.Sheet.{parts}
use Rattle.sheet.specs.Words.{read_words}
use Rattle.sheet.proofs.Parts.{length_parts}
use Rattle.sheet.proofs.Runs.{length_unpack}
use Rattle.sheet.proofs.Words.{length_worded}
use Rattle.sheet.proofs.Steps.{step_inside}
use Rattle.sheet_edition.specs.Edition.{layout_for}
use Rattle.sheet_edition.specs.declared.Edition.{Edition}
use Rattle.sheet_fields.specs.Fields.{any_frame, bytes_words}
use Rattle.audit_compare.specs.Difference.{fields_of}
use Rattle.audit_compare.specs.Standing.{stated_in}

-- a record's words are as many as are given
pub words_length : (l : Layout) (bs : List ℕ) → length (bytes_words l bs) ≡ read_words
unfolding record_slots
words_length l bs = length_worded l (unpack (record_slots l any_frame) bs) (length_unpack (record_slots l any_frame) bs)

-- what the part at i is mapped to
map_at : (F : List ℕ → List ℕ) (k n i : ℕ) (xs : List ℕ) → i < n → get_or (map F (parts k n xs)) i [] ≡ F (take k (drop (k * i) xs))
unfolding parts
map_at F k zero i xs h = absurd (not-suc-le-zero h)
map_at F k (suc n) zero xs h = rw mul-zero
map_at F k (suc n) (suc i) xs h =
    let q : k * suc i ≡ k + k * i = rw mul-suc (omega arith) in
    rw (q, ← drop-drop (k * i) k xs) (map_at F k n i (drop k xs) (le_of_suc-le-suc h))

pub stated_length : (l : Layout) (n : ℕ) (body : List ℕ) → length (stated_in l n body) ≡ n
stated_length l n body = length-map (parts (record_size l) n body) (λ b. fields_of l (bytes_words l b)) ∙ length_parts (record_size l) n body

pub stated_at : (l : Layout) (n i : ℕ) (body : List ℕ) → i < n → get_or (stated_in l n body) i [] ≡ fields_of l (bytes_words l (take (record_size l) (drop (record_size l * i) body)))
stated_at l n i body h = map_at (λ b. fields_of l (bytes_words l b)) (record_size l) n i body h

-- where the code finds the record at i
module _ (e : Edition) where
  pub record_inside : (n i long : ℕ) → record_size (layout_for e) * n ≤ long → i < n → e.bytes * i + e.bytes ≤ long
  record_inside n i long h r =
      let m : e.bytes * n ≡ record_size (layout_for e) * n = ap (λ (j : ℕ). j * n) e.bytes_are in
      omega (arith, m, step_inside e.bytes n i r)

  pub record_at : (body : List ℕ) (i : ℕ) →
      take (e.bytes * i + e.bytes - e.bytes * i) (drop (e.bytes * i) body) ≡ take (record_size (layout_for e)) (drop (record_size (layout_for e) * i) body)
  record_at body i =
      let m : e.bytes * i + e.bytes - e.bytes * i ≡ e.bytes = omega arith in
      ap (λ (j : ℕ). take j (drop (e.bytes * i) body)) m ∙ ap (λ (j : ℕ). take j (drop (j * i) body)) e.bytes_are

-- a list written over all of one that is as long
pub pasted_all : {A : Type 0} (new old : List A) → length new ≡ length old → pasted 0 new old ≡ new
unfolding pasted
pasted_all {A} new old h =
    let r : length old ≤ 0 + length new = omega arith in
    ap (λ (t : List A). new ++ t) (drop_of_length-le old r) ∙ append-nil new
