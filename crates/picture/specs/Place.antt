-- Inner: what the code asks of a place. Definitions only.
use Rattle.std.specs.Prelude.{ℕ, ◌+◌, ◌*◌, ◌<◌, ◌≤◌, ◌≡◌}
use Rattle.picture.specs.declared.Shape.{Shape}
use Rattle.picture.specs.declared.Size.{Size}

-- the list, `len` long, is a stack of that shape, and (p, r, c) is a place in it
pub record Inside (len : ℕ) (t : Shape) (p r c : ℕ) : Type 0 where
  pub whole : len ≡ t.planes * t.height * t.width
  pub plane : p < t.planes
  pub row : r < t.height
  pub column : c < t.width

-- the list, `len` long, is a picture of that size, and (r, c) is a cell of it
pub record Within (len : ℕ) (s : Size) (r c : ℕ) : Type 0 where
  pub whole : len ≡ s.height * s.width
  pub row : r < s.height
  pub column : c < s.width

-- the same, and the cell has its four neighbours in it
pub record Around (len : ℕ) (s : Size) (r c : ℕ) : Type 0 where
  pub whole : len ≡ s.height * s.width
  pub up : 1 ≤ r
  pub down : r + 1 < s.height
  pub left : 1 ≤ c
  pub right : c + 1 < s.width
