-- A stack of planes as one list of samples, plane after plane: a picture of all their rows. Definitions only.
use Rattle.std.specs.Prelude.{ℕ, ◌+◌, ◌*◌, List, Float}
use Rattle.picture.specs.Picture.{pixel}
use Rattle.picture.specs.declared.Shape.{Shape}

-- the sample of plane p at row r, column c
unfoldable pub sample : List Float → Shape → ℕ → ℕ → ℕ → Float
sample d t p r c = pixel d t.width (p * t.height + r) c
