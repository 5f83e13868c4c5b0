-- The fields of a record's 139 words, one by one, in every layout. Assumes nothing.
use mathlib.Core.Path.{◌≡◌, ap, ◌∙◌}
use mathlib.Core.Bool.{Bool, true, false, cond}
use mathlib.Core.Logic.{⊎_elim}
use mathlib.Core.List.{List, ◌∷◌}
use Prim.Native.Nat.{ℕ, suc, ◌+◌, ◌-◌, ◌≤◌, ◌<◌}
use native.Mathlib.Nat.{lt_of_lt_of_le}
use native.Mathlib.Omega.{arith}
use lib.Dec.{lit≤}
use lib.ListN.{length, get_or, take, drop, length-append, length-take, length-drop, get_or-append, get_or-eq_default}
use lib.Seq.{get_or-take, get_or-drop}
use Rattle.lists.proofs.Naturals.{le_or_lt}
use Rattle.sheet.specs.Layout.{Layout}
use Rattle.sheet.specs.Words.{plain_words, read_words, head_words, taken_words, filled}
use Rattle.sheet.proofs.Words.{field_count, past_at}
use Rattle.audit_compare.specs.Difference.{fields_of}

rest_at : (j b : ℕ) (t : List ℕ) → get_or (b ∷ 0 ∷ t) (2 + j) 0 ≡ get_or t j 0
rest_at j b t = ap (λ (k : ℕ). get_or (b ∷ 0 ∷ t) k 0) two
  where
    two : 2 + j ≡ suc (suc j)
    two = omega arith

-- of words that are 138 or more
module _ (w : List ℕ) (h : plain_words ≤ length w) where
  front_length : length (take head_words w) ≡ head_words
  front_length = rw length-take (omega arith)

  filled_length : length (filled w) ≡ field_count
  unfolding filled
  filled_length = rw (length-append, length-take, length-take, length-drop) (omega arith)

  filled_front : (i : ℕ) → i < head_words → get_or (filled w) i 0 ≡ get_or w i 0
  unfolding filled
  filled_front i r =
      let b : i < length (take head_words w) = omega (arith, front_length) in
      get_or-append (take head_words w) (get_or w plain_words 0 ∷ 0 ∷ take (plain_words - head_words) (drop head_words w)) 0 i b ∙ get_or-take head_words w i 0 r

  -- what stands at the place k behind the first five
  filled_past : (k : ℕ) → get_or (filled w) (head_words + k) 0 ≡ get_or (get_or w plain_words 0 ∷ 0 ∷ take (plain_words - head_words) (drop head_words w)) k 0
  unfolding filled
  filled_past k = past_at (take head_words w) (get_or w plain_words 0 ∷ 0 ∷ take (plain_words - head_words) (drop head_words w)) head_words k front_length

  filled_rest : (j : ℕ) → j < plain_words - head_words → get_or (filled w) (head_words + (2 + j)) 0 ≡ get_or w (head_words + j) 0
  filled_rest j r = filled_past (2 + j) ∙ rest_at j (get_or w plain_words 0) (take (plain_words - head_words) (drop head_words w)) ∙ get_or-take (plain_words - head_words) (drop head_words w) j 0 r ∙ get_or-drop head_words w j 0

taken_least : (b : Bool) → plain_words ≤ cond b read_words plain_words
taken_least true = lit≤ tt
taken_least false = lit≤ tt

blank_at : (b : Bool) (r : List ℕ) → get_or (take (cond b read_words plain_words) r) plain_words 0 ≡ cond b (get_or r plain_words 0) 0
blank_at true r = get_or-take read_words r plain_words 0 (lit≤ tt)
blank_at false r = get_or-eq_default (take plain_words r) 0 (rw length-take (omega arith))

module _ (l : Layout) (r : List ℕ) (h : length r ≡ read_words) where
  taken_long : plain_words ≤ length (take (taken_words l) r)
  taken_long = rw length-take (omega (arith, taken_least l.marked))

  taken_at : (i : ℕ) → i < plain_words → get_or (take (taken_words l) r) i 0 ≡ get_or r i 0
  taken_at i b = get_or-take (taken_words l) r i 0 (lt_of_lt_of_le b (taken_least l.marked))

  pub fields_length : length (fields_of l r) ≡ field_count
  fields_length = filled_length (take (taken_words l) r) taken_long

  -- the whole numbers; the blank bit; the zero bits; and the floats and the values
  pub field_front : (i : ℕ) → i < head_words → get_or (fields_of l r) i 0 ≡ get_or r i 0
  field_front i b = filled_front (take (taken_words l) r) taken_long i b ∙ taken_at i (omega arith)

  field_blank : get_or (fields_of l r) 5 0 ≡ cond l.marked (get_or r plain_words 0) 0
  field_blank = filled_past (take (taken_words l) r) taken_long 0 ∙ blank_at l.marked r

  pub blank_marked : l.marked ≡ true → get_or (fields_of l r) 5 0 ≡ get_or r plain_words 0
  blank_marked m = field_blank ∙ rw m

  blank_unmarked : l.marked ≡ false → get_or (fields_of l r) 5 0 ≡ 0
  blank_unmarked m = field_blank ∙ rw m

  field_zero : get_or (fields_of l r) 6 0 ≡ 0
  field_zero = filled_past (take (taken_words l) r) taken_long 1

  pub field_none : (i : ℕ) → head_words ≤ i → i ≤ 6 → (i ≡ 5 → l.marked ≡ false) → get_or (fields_of l r) i 0 ≡ 0
  field_none i a b m =
      ⊎_elim
      (λ h. let e : i ≡ 5 = omega (arith, h) in ap (λ (k : ℕ). get_or (fields_of l r) k 0) e ∙ blank_unmarked (m e))
      (λ h. let e : i ≡ 6 = omega (arith, h) in ap (λ (k : ℕ). get_or (fields_of l r) k 0) e ∙ field_zero)
      (le_or_lt i 5)

  pub field_rest : (i : ℕ) → 6 < i → i < field_count → get_or (fields_of l r) i 0 ≡ get_or r (i - 2) 0
  field_rest i a b =
      let m : i ≡ head_words + (2 + (i - 7)) = omega arith in
      let n : head_words + (i - 7) ≡ i - 2 = omega arith in
      ap (λ (k : ℕ). get_or (fields_of l r) k 0) m ∙ filled_rest (take (taken_words l) r) taken_long (i - 7) (omega arith) ∙ taken_at (head_words + (i - 7)) (omega arith) ∙ ap (λ (k : ℕ). get_or r k 0) n
