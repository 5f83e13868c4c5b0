-- The samples of a stack, tested in three parts: the rows above those that are searched, these as far as their cells are held, and the rest. Assumes nothing.
use Prim.Native.Nat.{ℕ, ◌+◌, ◌-◌, ◌*◌, ◌<◌, ◌≤◌}
use mathlib.Core.Path.{◌≡◌, refl, sym, ◌∙◌}
use mathlib.Core.Bool.{Bool, true, false}
use mathlib.Core.Logic.{⊎_elim}
use mathlib.Core.List.{List}
use native.Mathlib.Omega.{arith}
use lib.ListN.{length}
use lib.Ieee.{Float}
use Rattle.lists.proofs.Every.{every_all, all_every}
use Rattle.lists.proofs.Naturals.{le_or_lt}
use Rattle.params.specs.Table.{all_good}
use Rattle.detect_samples.specs.Rows.{span_good, rows_good}
use Rattle.picture.specs.declared.Shape.{Shape}
use Rattle.detect_samples.proofs.Rows.{rows_all, rows_of}

module _ (d : List Float) (t : Shape) where
  abbrev Row : ℕ → Type 0
  Row r = span_good t r 0 t.width d ≡ true

  rows_at : (a b : ℕ) → rows_good t a b d ≡ true → (r : ℕ) → a ≤ r → r < b → Row r
  unfolding rows_good
  rows_at a b e r l h =
      let z : a + (r - a) ≡ r = omega arith in
      rw z at (every_all (b - a) _ e (r - a) (omega arith))

  at_rows : (a b : ℕ) → ((r : ℕ) → a ≤ r → r < b → Row r) → rows_good t a b d ≡ true
  unfolding rows_good
  at_rows a b f = all_every (b - a) _ (λ i l. f (a + i) (omega arith) (omega arith))

  module _ (whole : length d ≡ t.planes * t.height * t.width) where
    -- all samples are good where those of all rows are, in three parts
    pub all_tested : (a r : ℕ) → rows_good t 0 a d ≡ true → rows_good t a r d ≡ true → rows_good t r t.height d ≡ true → all_good d ≡ true
    all_tested a r top mid rest =
        sym (rows_all d t whole)
        ∙ at_rows 0 t.height (λ i _ h.
        ⊎_elim
        (λ past. rows_at r t.height rest i past h)
        (λ before. ⊎_elim (λ l. rows_at a r mid i l before) (λ l. rows_at 0 a top i (omega arith) l) (le_or_lt a i))
        (le_or_lt r i))

    -- and are not where those of some rows are not
    pub rows_bad : (a b : ℕ) → b ≤ t.height → rows_good t a b d ≡ false → all_good d ≡ false
    rows_bad a b l e = go (all_good d) refl
      where
        go : (g : Bool) → all_good d ≡ g → g ≡ false
        go true g = sym (rows_of d t whole a b l g) ∙ e
        go false g = refl
