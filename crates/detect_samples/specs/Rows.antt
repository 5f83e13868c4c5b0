-- Inner: rows of a stack's samples in range in every plane, rule A13. Definitions only.
use Rattle.std.specs.Prelude.{ℕ, ◌+◌, ◌-◌, ◌*◌, Bool, List, Float}
use Rattle.lists.specs.Ranges.{every}
use Rattle.picture.specs.declared.Shape.{Shape}
use Rattle.samples.specs.Samples.{good_from}

-- the planes of three layers: so many are tested a column of cells at a time
abbrev pub usual : ℕ
usual = 5

-- the cells of row r from column lo to below hi are good in every plane
unfoldable pub span_good : Shape → ℕ → ℕ → ℕ → List Float → Bool
span_good t r lo hi d =
    every t.planes (λ p. good_from ((p * t.height + r) * t.width + lo) ((p * t.height + r) * t.width + hi) d)

-- the rows from a to below b are
unfoldable pub rows_good : Shape → ℕ → ℕ → List Float → Bool
rows_good t a b d = every (b - a) (λ i. span_good t (a + i) 0 t.width d)
