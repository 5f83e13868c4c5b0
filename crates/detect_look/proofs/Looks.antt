-- How a run of cells is looked at, one more cell at a time: whether one is loud or has a hint, and the marks. Assumes nothing.
use Prim.Native.Nat.{ℕ, zero, suc, ◌+◌, ◌-◌, ◌<◌, ◌≤◌}
use mathlib.Core.Path.{◌≡◌, refl, sym, ap, ◌∙◌}
use mathlib.Core.Bool.{Bool, true, false, ◌&&◌, ◌||◌, not}
use mathlib.Core.Logic.{⊎_elim}
use mathlib.Core.List.{List, [], ◌∷◌, ◌++◌}
use native.Mathlib.Nat.{eq-or-lt_of_le, le_of_suc-le-suc}
use native.Mathlib.Numerals.{add-one}
use native.Mathlib.Omega.{arith}
use lib.ListN.{length, get_or, set, replicate, length-append, length-replicate, get_or-append}
use lib.Seq.{sets, get_or-append_seam}
use lib.Ieee.{Float}
use Rattle.lists.proofs.Naturals.{le_or_lt}
use Rattle.lists.specs.Ranges.{every, joined}
use Rattle.lists.proofs.Every.{every_none, every_all}
use Rattle.lists.proofs.Ranges.{joined_none, joined_start, joined_more, sets_append, sets_front}
use Rattle.picture.specs.Stack.{sample}
use Rattle.picture.specs.declared.Shape.{Shape}
use Rattle.detect_keypoint.specs.declared.Search.{Search}
use Rattle.detect_extrema.specs.Neighbours.{tied}
use Rattle.detect_extrema.specs.Scan.{cells_of}
use Rattle.detect_look.specs.Hints.{hint_at, beyond, some_cell, any_loud, any_hint, looks}
use Rattle.detect_look.specs.Place.{group}
use Rattle.detect_look.specs.declared.Run.{Run}
use Rattle.detect_extrema.proofs.Cells.{found_quiet}
use Rattle.detect_look.proofs.Sides.{loud_beyond}
use Rattle.detect_look.proofs.Hints.{not_yes, unseen}

or_not : (a b : Bool) → (not a || b) ≡ not (a && not b)
or_not true true = refl
or_not true false = refl
or_not false b = refl

not_no : (b : Bool) → not b ≡ false → b ≡ true
not_no true e = refl
not_no false e = sym e

-- ---- a list of one element for each number of a range

module _ {A : Type 0} (f : ℕ → A) (lo : ℕ) where
  abbrev ones : ℕ → List A
  ones hi = joined lo hi (λ c. f c ∷ [])

  ones_length : (hi : ℕ) → length (ones hi) ≡ hi - lo
  ones_length zero = rw (joined_none lo zero (λ c. f c ∷ []) (omega arith)) (omega arith)
  ones_length (suc hi) =
      ⊎_elim
      (λ g. rw (← add-one hi, joined_more lo hi (λ c. f c ∷ []) g, length-append) (omega (arith, ones_length hi)))
      (λ g. rw (joined_none lo (suc hi) (λ c. f c ∷ []) g) (omega arith))
      (le_or_lt lo hi)

  ones_at : (hi c : ℕ) (z : A) → lo ≤ c → c < hi → get_or (ones hi) (c - lo) z ≡ f c
  ones_at zero c z a b = absurd (omega arith)
  ones_at (suc hi) c z a b =
      let g : lo ≤ hi = omega arith in
      rw (← add-one hi, joined_more lo hi (λ c. f c ∷ []) g)
      (⊎_elim
      (λ q. let n : c - lo ≡ length (ones hi) = omega (arith, ones_length hi) in ap (λ (k : ℕ). get_or (ones hi ++ (f hi ∷ [])) k z) n ∙ get_or-append_seam (ones hi) (f hi) [] z ∙ ap f (sym q))
      (λ l. get_or-append (ones hi) (f hi ∷ []) z (c - lo) (omega (arith, ones_length hi)) ∙ ones_at hi c z a l)
      (eq-or-lt_of_le (le_of_suc-le-suc b)))

-- ---- whether a number of a range passes a test

module _ (test : ℕ → Bool) (lo : ℕ) where
  abbrev fails : ℕ → Bool
  fails i = not (test (lo + i))

  pub some_none : false ≡ some_cell lo lo test
  unfolding some_cell
  some_none = let z : lo - lo ≡ 0 = omega arith in rw (z, every_none)

  pub some_more : (c : ℕ) (any b : Bool) → lo ≤ c → any ≡ some_cell lo c test → b ≡ test c → (any || b) ≡ some_cell lo (c + 1) test
  unfolding some_cell every
  some_more c any b o e f =
      let z : c + 1 - lo ≡ suc (c - lo) = omega arith in
      let n : lo + (c - lo) ≡ c = omega arith in
      rw (z, n, e, f) (or_not (every (c - lo) fails) (test c))

  -- where none does, each fails
  none_passes : (hi : ℕ) → some_cell lo hi test ≡ false → (c : ℕ) → lo ≤ c → c < hi → test c ≡ false
  unfolding some_cell
  none_passes hi e c a b =
      let n : lo + (c - lo) ≡ c = omega arith in
      let q : test (lo + (c - lo)) ≡ false = not_yes _ (every_all (hi - lo) fails (not_no (every (hi - lo) fails) e) (c - lo) (omega arith)) in
      rw n at q

-- where each part of a range is empty the whole is
blank : {A : Type 0} (lo hi : ℕ) (f : ℕ → List A) → ((i : ℕ) → lo ≤ i → i < hi → f i ≡ []) → joined lo hi f ≡ []
blank lo zero f e = joined_none lo zero f (omega arith)
blank lo (suc hi) f e =
    ⊎_elim
    (λ g. rw (← add-one hi, joined_more lo hi f g, blank lo hi f (λ i a b. e i a (omega arith)), e hi g (omega arith)))
    (λ g. joined_none lo (suc hi) f g)
    (le_or_lt lo hi)

module _ (d : List Float) (t : Shape) (s : Search) (r lo : ℕ) where
  abbrev loud_at : ℕ → Bool
  loud_at c = beyond s.threshold (sample d t s.layer r c)

  abbrev look : ℕ → Bool
  look c = hint_at s.threshold d t s.layer r c

  -- where none is, they give nothing
  pub quiet_cells : (hi : ℕ) → any_loud d t s r lo hi ≡ false → cells_of tied d t s r lo hi ≡ []
  unfolding any_loud
  quiet_cells hi e = blank lo hi _ (λ c a b. found_quiet d t s r c (loud_beyond _ _ (none_passes loud_at lo hi e c a b)))

  -- where none has, they give nothing
  pub unseen_cells : (hi : ℕ) → any_hint d t s r lo hi ≡ false → cells_of tied d t s r lo hi ≡ []
  unfolding any_hint
  unseen_cells hi e = blank lo hi _ (λ c a b. unseen d t s r c (none_passes look lo hi e c a b))

-- ---- the marks

module _ (d : List Float) (t : Shape) (s : Search) (r lo : ℕ) where
  pub marks_none : (old : List Bool) → old ≡ sets old 0 (looks d t s r lo lo)
  unfolding looks
  marks_none old = rw joined_start

  pub marks_more : (c : ℕ) (old marks : List Bool) (b : Bool) → lo ≤ c → marks ≡ sets old 0 (looks d t s r lo c) → b ≡ hint_at s.threshold d t s.layer r c
      → set marks (c - lo) b ≡ sets old 0 (looks d t s r lo (c + 1))
  unfolding looks
  marks_more c old marks b o e f =
      let n : c - lo ≡ 0 + length (joined lo c (λ c. hint_at s.threshold d t s.layer r c ∷ [])) = omega (arith, ones_length (hint_at s.threshold d t s.layer r) lo c) in
      rw (joined_more lo c (λ c. hint_at s.threshold d t s.layer r c ∷ []) o, e, f, n)
      (sets_append (joined lo c (λ c. hint_at s.threshold d t s.layer r c ∷ [])) (hint_at s.threshold d t s.layer r c ∷ []) old 0)

-- what is read of them
pub marks_read : (d : List Float) (t : Shape) (s : Search) (u : Run) (marks : List Bool) → u.hi ≤ u.lo + group → marks ≡ sets (replicate group false) 0 (looks d t s u.row u.lo u.hi)
    → (c : ℕ) → u.lo ≤ c → c < u.hi → get_or marks (c - u.lo) false ≡ hint_at s.threshold d t s.layer u.row c
unfolding looks
marks_read d t s u marks room e c a b =
    let old = replicate group false in
    let n : length old ≡ group = length-replicate group false in
    let look = hint_at s.threshold d t s.layer u.row in
    let m = ones_length look u.lo u.hi in
    rw (e, sets_front old (joined u.lo u.hi (λ c. look c ∷ [])) (omega (arith, m)))
    (get_or-append (joined u.lo u.hi (λ c. look c ∷ [])) _ false (c - u.lo) (omega (arith, m)) ∙ ones_at look u.lo u.hi c false a b)
