-- What C hands over in single values, put together. Definitions only.
use Rattle.std.specs.Prelude.{ℕ, Float}
use Rattle.params.specs.declared.Settings.{Settings}
use Rattle.picture.specs.declared.Shape.{Shape}
use Rattle.picture.specs.declared.Size.{Size}
use Rattle.picture.specs.declared.Spot.{Spot}

abbrev pub settings_of : Float → Float → Float → ℕ → Settings
settings_of contrast edge sigma layers = record { contrast = contrast; edge = edge; sigma = sigma; layers = layers }

abbrev pub shape_of : ℕ → ℕ → ℕ → Shape
shape_of width height planes = record { width = width; height = height; planes = planes }

abbrev pub size_of : ℕ → ℕ → Size
size_of width height = record { width = width; height = height }

abbrev pub spot_of : Float → Float → Float → Float → Spot
spot_of x y scale angle = record { x = x; y = y; scale = scale; angle = angle }
