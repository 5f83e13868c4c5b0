-- The cells about a keypoint that are read: those within the radius and not on the picture's edge (rule O2). Definitions only.
use Rattle.std.specs.Prelude.{ℕ, ◌+◌, ◌-◌, List, [], ◌∷◌, length, Float}
use Rattle.std.specs.Float.Ieee.{neg, to_unsigned}
use Rattle.ieee.specs.F32.{◌⊗◌, ◌⊘◌, f32, rounded}
use Rattle.ieee.specs.Numbers.{three_halves, one, two}
use Rattle.lists.specs.Ranges.{joined}
use Rattle.picture.specs.Picture.{first_in, past_in}
use Rattle.picture.specs.declared.Size.{Size}
use Rattle.orient_window.specs.declared.Window.{Window}

-- 4.5
abbrev pub radius_factor : Float
radius_factor = f32 0x4090_0000

-- the radius: rule O1
unfoldable pub radius_of : Float → ℕ
radius_of scale = to_unsigned 64 (rounded (radius_factor ⊗ scale))

-- the factor of the weight's exponent, which is multiplied by the squared distance: rule O3
abbrev pub sigma_of : Float → Float
sigma_of scale = three_halves ⊗ scale

unfoldable pub falloff_of : Float → Float
falloff_of scale = neg one ⊘ (two ⊗ sigma_of scale ⊗ sigma_of scale)

-- the window about (row, col) of a picture: the rows and the columns within the radius, but for those on the edge
unfoldable pub window_of : Size → ℕ → ℕ → Float → Window
window_of s row col scale =
    let radius = radius_of scale in
    record {
      size = s;
      row = row;
      col = col;
      top = first_in row radius;
      left = first_in col radius;
      rows = past_in row radius s.height - first_in row radius;
      cols = past_in col radius s.width - first_in col radius;
      falloff = falloff_of scale;
    }

-- a row and a column
pub record Cell : Type 0 where
  pub row : ℕ
  pub col : ℕ

abbrev pub cell : ℕ → ℕ → Cell
cell y x = record { row = y; col = x }

-- the cells of row y
unfoldable pub row_of : Window → ℕ → List Cell
row_of win y = joined win.left (win.left + win.cols) (λ x. cell y x ∷ [])

-- the cells of a window, row by row, as they are read
unfoldable pub cells_of : Window → List Cell
cells_of win = joined win.top (win.top + win.rows) (row_of win)

-- n, the number of cells read
unfoldable pub cells_read : Window → ℕ
cells_read win = length (cells_of win)
