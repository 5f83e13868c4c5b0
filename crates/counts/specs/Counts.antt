-- How many numbers of a range pass a test, which they are, and whether one does. Definitions only.
use Rattle.std.specs.Prelude.{ℕ, zero, suc, ◌+◌, Bool, false, cond, ◌&&◌, ◌||◌, List, [], ◌∷◌, leb}
use Rattle.lists.specs.Ranges.{joined}

-- how many of the numbers from lo to below hi pass the test
unfoldable pub counted : ℕ → ℕ → (ℕ → Bool) → ℕ
counted lo zero test = 0
counted lo (suc hi) test = counted lo hi test + cond (leb lo hi && test hi) 1 0

-- those numbers, in order
abbrev pub passed : ℕ → ℕ → (ℕ → Bool) → List ℕ
passed lo hi test = joined lo hi (λ i. cond (test i) (i ∷ []) [])

-- one of the numbers below n passes the test
unfoldable pub some : ℕ → (ℕ → Bool) → Bool
some zero test = false
some (suc n) test = some n test || test n
