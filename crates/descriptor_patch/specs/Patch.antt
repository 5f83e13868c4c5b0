-- The patch of a descriptor: its radius, how it lies, and what a cell gives (rules P2 to P4, P8 and P9). Operation by operation as `compute_descriptor` of the source. Definitions only.
use Rattle.std.specs.Prelude.{ℕ, min, Bool, ◌&&◌, List, ℤ, pos, ◌-ℤ◌, Float}
use Rattle.std.specs.Float.Ieee.{neg, to_unsigned}
use Rattle.ieee.specs.F32.{◌⊕◌, ◌⊖◌, ◌⊗◌, ◌⊘◌, ◌<ᶠ◌, f32, root_of, rounded, to_i32, float, float_z}
use Rattle.ieee.specs.Numbers.{half, minus_one, two, three, four, five, root2}
use Rattle.hal_turn.specs.Turn.{sin_of, cos_of}
use Rattle.picture.specs.Picture.{slope_at}
use Rattle.picture.specs.declared.Size.{Size}
use Rattle.descriptor_patch.specs.declared.Patch.{Patch}
use Rattle.descriptor_patch.specs.declared.Rots.{Rots}
use Rattle.descriptor_patch.specs.declared.Sample.{Sample}

-- The source's D is 4: D / 2 is `two`, D + 1 `five`; DESCR_SCL_FCTR is `three`, and -1 / (D * D * 0.5) is -0.125.
abbrev pub exp_scale : Float
exp_scale = neg (f32 0x3e00_0000)

-- ---- how it lies

-- the cell of a position: rounded, ties to even, as a whole number (rule P2)
abbrev pub cell_of : Float → ℤ
cell_of x = to_i32 (rounded x)

-- 3 × scale, and the turn over it (rule P3)
unfoldable pub hist_width : Float → Float
hist_width scale = three ⊗ scale

unfoldable pub cos_t : Float → Float → Float
cos_t scale angle = cos_of angle ⊘ hist_width scale

unfoldable pub sin_t : Float → Float → Float
sin_t scale angle = sin_of angle ⊘ hist_width scale

-- hist_width × √2 × 5 × 0.5 rounded (rule P4)
unfoldable pub reach_of : Float → ℕ
reach_of scale = to_unsigned 64 (rounded (hist_width scale ⊗ root2 ⊗ five ⊗ half))

-- and at most the picture's diagonal, cut to a whole number
unfoldable pub diagonal_of : Size → Float
diagonal_of s = root_of (float s.width ⊗ float s.width ⊕ float s.height ⊗ float s.height)

unfoldable pub radius_of : Size → Float → ℕ
radius_of s scale = min (reach_of scale) (to_unsigned 64 (diagonal_of s))

-- how the patch lies about the cell (py, px) of a picture
unfoldable pub patch_of : Size → ℕ → ℕ → Float → Float → Patch
patch_of s px py scale angle =
    record {
      size = s;
      angle = angle;
      cos = cos_t scale angle;
      sin = sin_t scale angle;
      radius = radius_of s scale;
      px = px;
      py = py;
    }

-- ---- a cell

-- c_rot and r_rot of the cell (r, c), which lies i rows and j columns from the position
unfoldable pub rots_of : Patch → ℕ → ℕ → Rots
rots_of t r c =
    let i = float_z (pos r -ℤ pos t.py) in
    let j = float_z (pos c -ℤ pos t.px) in
    record { col = j ⊗ t.cos ⊖ i ⊗ t.sin; row = j ⊗ t.sin ⊕ i ⊗ t.cos }

-- its place in the grid (rule P8)
abbrev pub bin_of : Float → Float
bin_of rot = rot ⊕ two ⊖ half

-- above -1 and below 4
abbrev pub in_grid : Float → Bool
in_grid bin = (minus_one <ᶠ bin) && (bin <ᶠ four)

unfoldable pub grid_at : Patch → ℕ → ℕ → Bool
grid_at t r c = in_grid (bin_of (rots_of t r c).row) && in_grid (bin_of (rots_of t r c).col)

-- the cell (r, c) as a sample (rule P9)
unfoldable pub sample_at : List Float → Patch → ℕ → ℕ → Sample
sample_at img t r c =
    let p = rots_of t r c in
    let g = slope_at img t.size.width r c in
    record {
      dx = g.dx;
      dy = g.dy;
      rbin = bin_of p.row;
      cbin = bin_of p.col;
      fall = (p.col ⊗ p.col ⊕ p.row ⊗ p.row) ⊗ exp_scale;
    }
