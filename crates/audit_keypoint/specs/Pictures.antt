-- The Gaussian planes of an octave, one after the other: a layer's picture is the plane of its number, from 0 (rule C2). Definitions only.
use Rattle.std.specs.Prelude.{ℕ, ◌*◌, List, take, drop, Float}
use Rattle.picture.specs.declared.Shape.{Shape}

-- the cells of a plane
abbrev pub plane_size : Shape → ℕ
plane_size t = t.height * t.width

unfoldable pub picture_in : List Float → Shape → ℕ → List Float
picture_in gauss t layer = take (plane_size t) (drop (layer * plane_size t) gauss)
