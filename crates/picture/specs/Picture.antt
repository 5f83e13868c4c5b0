-- A picture: rows of samples, one after the other in one list. How a sample is read, the slope at a cell, the four neighbours that it takes, and the places within
-- a radius. Definitions only.
use Rattle.std.specs.Prelude.{ℕ, ◌+◌, ◌-◌, ◌*◌, min, max, List, [], ◌∷◌, get_or, Float}
use Rattle.std.specs.Float.{nan}
use Rattle.ieee.specs.F32.{◌⊖◌}
use Rattle.picture.specs.declared.Slope.{Slope}

-- the sample at row r, column c, where a row has w
unfoldable pub pixel : List Float → ℕ → ℕ → ℕ → Float
pixel img w r c = get_or img (r * w + c) nan

-- right less left, and up less down
unfoldable pub slope_at : List Float → ℕ → ℕ → ℕ → Slope
slope_at img w r c =
    record { dx = pixel img w r (c + 1) ⊖ pixel img w r (c - 1); dy = pixel img w (r - 1) c ⊖ pixel img w (r + 1) c }

-- the four neighbours, which are all that a slope reads
unfoldable pub four_at : List Float → ℕ → ℕ → ℕ → List Float
four_at img w r c = pixel img w r (c + 1) ∷ pixel img w r (c - 1) ∷ pixel img w (r - 1) c ∷ pixel img w (r + 1) c ∷ []

-- the places within the radius of `at` that are neither the first nor the last of a side: from this one
abbrev pub first_in : ℕ → ℕ → ℕ
first_in at radius = max 1 (at - radius)

-- to the one before this
abbrev pub past_in : ℕ → ℕ → ℕ → ℕ
past_in at radius side = min (at + radius + 1) (side - 1)
