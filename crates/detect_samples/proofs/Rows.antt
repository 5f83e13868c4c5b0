-- Rows of a stack, good in every plane: one row more, and that all rows are all samples. Assumes nothing.
use Prim.Native.Nat.{ℕ, zero, suc, ◌+◌, ◌-◌, ◌*◌, ◌/◌, ◌%◌, ◌<◌, ◌≤◌}
use mathlib.Core.Path.{◌≡◌, refl, sym, ap, ◌∙◌}
use mathlib.Core.Bool.{Bool, true, false}
use mathlib.Core.Logic.{⊎_elim}
use mathlib.Core.List.{List, [], ◌∷◌, ◌++◌, map}
use native.Mathlib.Nat.{div-add-mod', div-lt_iff_lt-mul, mod-lt}
use native.Mathlib.Numerals.{add-one}
use native.Mathlib.Omega.{arith}
use Rattle.std.specs.List.{list_all, range_with_len}
use Rattle.std.proofs.lemmas.List.FromFn.{map-range_with_len_more}
use Rattle.std.proofs.lemmas.List.Folds.{list_all-map, list_all-append}
use lib.ListN.{length, get_or, take, drop, take-append-drop}
use lib.Seq.{length-take-le}
use lib.Ieee.{Float, nan}
use Rattle.lists.specs.Ranges.{every}
use Rattle.lists.proofs.Bools.{and_true, and_left, and_right, both_and, both_ways}
use Rattle.lists.proofs.Naturals.{le_or_lt}
use Rattle.lists.proofs.Every.{every_none, every_more, every_to, every_all, all_every}
use Rattle.params.specs.Table.{good_sample, all_good}
use Rattle.picture.specs.declared.Shape.{Shape}
use Rattle.samples.specs.Samples.{good_from}
use Rattle.detect_samples.specs.Rows.{span_good, rows_good}
use Rattle.samples.proofs.Runs.{good_append, good_in}
use Rattle.detect_samples.proofs.Spans.{line}

-- ---- all rows are all samples

-- a part of samples that are all good
pub good_part : (d : List Float) (from to : ℕ) → from ≤ to → to ≤ length d → all_good d ≡ true → good_from from to d ≡ true
unfolding good_from
good_part d from to a b e =
    let h : from ≤ length (take to d) = rw (length-take-le to d b) a in
    let f : all_good (take to d) ≡ true = and_left _ _ (sym (good_append (take to d) (drop to d)) ∙ rw (take-append-drop to d) e) in
    and_right (all_good (take from (take to d))) _ (sym (good_append (take from (take to d)) (drop from (take to d))) ∙ rw (take-append-drop from (take to d)) f)

-- where each sample is good, all are
each_good : (d : List Float) → ((i : ℕ) → i < length d → good_sample (get_or d i nan) ≡ true) → all_good d ≡ true
unfolding all_good
each_good [] f = refl
each_good (x ∷ xs) f = both_and (good_sample x) (all_good xs) (f 0 (omega arith)) (each_good xs (λ i l. f (suc i) (omega arith)))

module _ (d : List Float) (t : Shape) (whole : length d ≡ t.planes * t.height * t.width) where
  -- a row of good samples is good in every plane, and so are all rows
  span_of : (r : ℕ) → r < t.height → all_good d ≡ true → span_good t r 0 t.width d ≡ true
  unfolding span_good
  span_of r l e =
      all_every t.planes _ (λ p h. let i = line t.planes t.height t.width p r h l in good_part d _ _ (omega arith) (omega (arith, i.end, whole)) e)

  pub row_bad : (r : ℕ) → r < t.height → span_good t r 0 t.width d ≡ false → all_good d ≡ false
  row_bad r l e = go (all_good d) refl
    where
      go : (b : Bool) → all_good d ≡ b → b ≡ false
      go true g = sym (span_of r l g) ∙ e
      go false g = refl

  pub rows_of : (a b : ℕ) → b ≤ t.height → all_good d ≡ true → rows_good t a b d ≡ true
  unfolding rows_good
  rows_of a b l e = all_every (b - a) _ (λ i h. span_of (a + i) (omega arith) e)

  -- the sample i is one of the row i / width of all planes' rows
  sample_of_lem : (i : ℕ) → i < length d → rows_good t 0 t.height d ≡ true → good_sample (get_or d i nan) ≡ true
  unfolding rows_good span_good
  sample_of_lem i l e =
      let w = t.width in
      let h = t.height in
      let wide : 0 < w = ⊎_elim (λ x. x) (λ x. let z : w ≡ 0 = omega arith in absurd (omega (arith, rw z at whole))) (le_or_lt 1 w) in
      let q : i / w < t.planes * h = (div-lt_iff_lt-mul {k = w} {x = i} {y = t.planes * h} wide).1 (omega (arith, whole)) in
      let high : 0 < h = ⊎_elim (λ x. x) (λ x. let z : h ≡ 0 = omega arith in absurd (omega (arith, rw z at q))) (le_or_lt 1 h) in
      let p : i / w / h < t.planes = (div-lt_iff_lt-mul {k = h} {x = i / w} {y = t.planes} high).1 q in
      let r : i / w % h < h = mod-lt (i / w) high in
      let g = every_all t.planes _ (every_all (h - 0) _ e (i / w % h) (omega arith)) (i / w / h) p in
      let x = line t.planes h w (i / w / h) (i / w % h) p r in
      let z : i / w / h * h + (0 + i / w % h) ≡ i / w = omega (arith, div-add-mod' (i / w) h) in
      let m : i % w < w = mod-lt i wide in
      good_in d (i / w * w + 0) (i / w * w + w) i (rw z at g) (omega (arith, rw (div-add-mod' (i / w) h) at x.end, whole)) (omega (arith, div-add-mod' i w)) (omega (arith, div-add-mod' i w))

  pub rows_all : rows_good t 0 t.height d ≡ all_good d
  rows_all = both_ways _ _ (λ e. each_good d (λ i l. sample_of_lem i l e)) (rows_of 0 t.height (omega arith))

-- ---- rows from one on, a row at a time
module _ (d : List Float) (t : Shape) (a : ℕ) where
  abbrev rows : ℕ → Bool
  rows r = every (r - a) (λ i. span_good t (a + i) 0 t.width d)

  pub rows_none : rows a ≡ true
  rows_none = every_to _ (omega arith) ∙ every_none _

  pub rows_more : (r : ℕ) → a ≤ r → (b : Bool) → b ≡ span_good t r 0 t.width d → b ≡ true → rows r ≡ true → rows (r + 1) ≡ true
  rows_more r on b is e k =
      let z : a + (r - a) ≡ r = omega arith in
      every_to {n = r + 1 - a} {m = r - a + 1} _ (omega arith) ∙ every_more (r - a) _ k (rw z (sym is ∙ e))

-- ---- the numbers from one on, tested in turn
pub every_range : (test : ℕ → Bool) (a n : ℕ) → list_all test (range_with_len a n) ≡ every n (λ i. test (a + i))
unfolding every
every_range test a zero = refl
every_range test a (suc n) =
    let id : Bool → Bool = λ b. b in
    let e : map test (range_with_len a (suc n)) ≡ map test (range_with_len a n) ++ (test (a + n) ∷ []) = rw (add-one n) at (map-range_with_len_more test a n (a + n) refl) in
    sym (list_all-map id test (range_with_len a (suc n))) ∙ ap (λ l. list_all id l) e ∙ list_all-append id (map test (range_with_len a n)) (test (a + n) ∷ [])
    ∙ rw (list_all-map id test (range_with_len a n), and_true, every_range test a n) refl
