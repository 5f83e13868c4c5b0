-- The standing after all records tells the verdict of the records. Assumes nothing.
use Prim.Native.Nat.{ℕ, zero, suc, ◌+◌, ◌-◌, ◌<◌, ◌≤◌}
use native.Mathlib.Nat.{add-zero}
use native.Mathlib.Numerals.{add-one}
use native.Mathlib.Omega.{arith}
use mathlib.Core.Path.{◌≡◌, refl, sym, ap, ◌∙◌}
use mathlib.Core.Bool.{Bool, true, false, cond}
use mathlib.Core.List.{List, [], ◌∷◌, map, foldl}
use borrow.Author.Tests.{lt-ltb, le-ltb, ne_eqb}
use lib.Dec.{eqb}
use lib.ListN.{length, get_or, take, drop, length-append, length-take}
use lib.Seq.{drop-drop, get_or-drop}
use Rattle.params.specs.Answers.{on_fault}
use Rattle.sheet.specs.Layout.{Layout}
use Rattle.sheet.specs.Words.{plain_words, head_words, filled, taken_words}
use Rattle.audit_compare.specs.Difference.{differs_from, first_difference, fields_of}
use Rattle.audit_compare.specs.Numbered.{missing}
use Rattle.audit_compare.specs.Standing.{start, moved, difference_at, compared, Standing}
use Rattle.audit_verdict.specs.Verdict.{records_verdict, Checked, Accepted, Differs, Missing, LeftOver}
use Rattle.audit_verdict.specs.Told.{told_by}

-- ---- no field has the number that stands for a missing record

filled_short : (w : List ℕ) → length (filled w) < missing
unfolding filled
filled_short w =
    let n = length-take head_words w in
    let m = length-take (plain_words - head_words) (drop head_words w) in
    rw length-append (omega arith)

differs_below : (at : ℕ) (xs ys : List ℕ) → 1 ≤ at → differs_from at xs ys < at + length xs
unfolding differs_from
differs_below at [] ys h = omega arith
differs_below at (x ∷ xs) [] h = omega arith
differs_below at (x ∷ xs) (y ∷ ys) h = either (eqb x y) (differs_below (suc at) xs ys (omega arith))
  where
    either : (b : Bool) → differs_from (suc at) xs ys < suc at + length xs → cond b (differs_from (suc at) xs ys) at < at + suc (length xs)
    either true less = omega arith
    either false less = omega arith

no_missing : (l : Layout) (r b : List ℕ) → first_difference (fields_of l r) b < missing
no_missing l r b =
    let p = differs_below 1 (fields_of l r) b (omega arith) in
    let q = filled_short (take (taken_words l) r) in
    omega arith

-- ---- the standings

abbrev standing : ℕ → ℕ → Standing
standing i d = record { place = i; field = d; good = true }

module _ (l : Layout) (stated : List (List ℕ)) where
  -- one with a difference stays
  step_stays : (i d : ℕ) (r : List ℕ) → compared l stated (standing i (suc d)) r ≡ standing i (suc d)
  unfolding compared
  step_stays i d r = rw (ne_eqb (suc d) 0 (λ z. omega arith))

  stays : (i d : ℕ) (rs : List (List ℕ)) → foldl (compared l stated) (standing i (suc d)) rs ≡ standing i (suc d)
  stays i d [] = refl
  stays i d (r ∷ rs) = ap (λ (st : Standing). foldl (compared l stated) st rs) (step_stays i d r) ∙ stays i d rs

  -- one more record, where none differs yet: none is left, or its difference from the sheet's
  step : (i d : ℕ) (r : List ℕ) → difference_at l stated i r ≡ d → compared l stated (standing i 0) r ≡ moved i d
  unfolding compared
  step i d r e = ap (moved i) e

  past : (i : ℕ) (r : List ℕ) → length stated ≤ i → difference_at l stated i r ≡ missing
  unfolding difference_at
  past i r h = rw (le-ltb i (length stated) h)

  inside : (i : ℕ) (r b : List ℕ) → i < length stated → get_or stated i [] ≡ b → difference_at l stated i r ≡ first_difference (fields_of l r) b
  unfolding difference_at
  inside i r b h e = rw (lt-ltb i (length stated) h, e)

  -- what a standing tells
  told_all : (i : ℕ) → length stated ≤ i → told_by (length stated) (standing i 0) ≡ Accepted
  unfolding told_by
  told_all i h = rw (le-ltb i (length stated) h)

  told_left : (i : ℕ) → i < length stated → told_by (length stated) (standing i 0) ≡ LeftOver i
  unfolding told_by
  told_left i h = rw (lt-ltb i (length stated) h)

  told_missing : (i : ℕ) → told_by (length stated) (standing i missing) ≡ Missing i
  unfolding told_by
  told_missing i = refl

  told_differs : (i d : ℕ) → suc d < missing → told_by (length stated) (standing i (suc d)) ≡ Differs i (suc d)
  unfolding told_by
  told_differs i d h = rw (ne_eqb (suc d) 0 (λ z. omega arith), ne_eqb (suc d) missing (λ z. omega arith))

  abbrev after : Standing → List (List ℕ) → Checked
  after st rs = told_by (length stated) (foldl (compared l stated) st rs)

  -- with a difference of a record, from what follows without one
  one : (i d : ℕ) (rs : List (List ℕ)) (rest : Checked) → d < missing → after (standing (suc i) 0) rs ≡ rest → after (moved i d) rs ≡ on_fault d rest (Differs i d)
  one i zero rs rest h e = ap (λ (k : ℕ). after (standing k 0) rs) (add-one i) ∙ e
  one i (suc d) rs rest h e =
      ap (λ (st : Standing). after st rs) moved_is ∙ ap (told_by (length stated)) (stays i d rs) ∙ told_differs i d h
    where
      moved_is : moved i (suc d) ≡ standing i (suc d)
      moved_is = rw (ne_eqb (suc d) 0 (λ z. omega arith))

  -- from a place on, where the rest of the sheet's records is known
  from : (i : ℕ) (rs rest : List (List ℕ)) → drop i stated ≡ rest → i + length rest ≡ length stated → after (standing i 0) rs ≡ records_verdict i (map (fields_of l) rs) rest
  unfolding records_verdict
  from i [] [] e n = told_all i (omega arith)
  from i [] (b ∷ rest) e n = told_left i (omega arith)
  from i (r ∷ rs) [] e n =
      ap (λ (st : Standing). after st rs) (step i missing r (past i r (omega arith)))
      ∙ ap (told_by (length stated)) (stays i (missing - 1) rs)
      ∙ told_missing i
  from i (r ∷ rs) (b ∷ rest) e n =
      let here : get_or stated i [] ≡ b = ap (λ (k : ℕ). get_or stated k []) (sym (add-zero i)) ∙ sym (get_or-drop i stated 0 []) ∙ ap (λ (xs : List (List ℕ)). get_or xs 0 []) e in
      let next : drop (suc i) stated ≡ rest = ap (λ (k : ℕ). drop k stated) (sym (add-one i)) ∙ sym (drop-drop 1 i stated) ∙ ap (drop 1) e in
      ap (λ (st : Standing). after st rs) (step i (first_difference (fields_of l r) b) r (inside i r b (omega arith) here))
      ∙ one i (first_difference (fields_of l r) b) rs _ (no_missing l r b) (from (suc i) rs rest next (omega arith))

pub told : (l : Layout) (rs stated : List (List ℕ)) → told_by (length stated) (foldl (compared l stated) start rs) ≡ records_verdict 0 (map (fields_of l) rs) stated
told l rs stated = from l stated 0 rs stated refl (omega arith)
