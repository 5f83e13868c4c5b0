-- What one cell of a window gives: a direction's bin, a weight and a magnitude (rules O3 and O4). Definitions only.
use Rattle.std.specs.Prelude.{ℕ, ◌+◌, ◌-◌, ◌*◌, cond, leb, pos, Float}
use Rattle.std.specs.Float.{binary32}
use Rattle.std.specs.Float.Ieee.{of_int, to_unsigned}
use Rattle.ieee.specs.F32.{◌⊗◌, f32, rounded}
use Rattle.hal.specs.Exp.{exp_of}
use Rattle.orient_window.specs.Window.{Cell}
use Rattle.orient_window.specs.declared.Window.{Window}

-- the number of bins, one for each 10 degrees
abbrev pub bins : ℕ
bins = 36

-- how far apart two places are
abbrev pub apart : ℕ → ℕ → ℕ
apart a b = (a - b) + (b - a)

-- the squared distance of a cell from the window's middle
unfoldable pub square_at : Window → Cell → ℕ
square_at win c =
    apart c.row win.row * apart c.row win.row + apart c.col win.col * apart c.col win.col

unfoldable pub weight_at : Window → Cell → Float
weight_at win c = exp_of (of_int binary32 (pos (square_at win c)) ⊗ win.falloff)

-- 36 / 360, as an f32
abbrev pub tenth : Float
tenth = f32 0x3dcc_cccd

-- the bin of an angle: rule O4
unfoldable pub bin_of : Float → ℕ
bin_of angle =
    let b = to_unsigned 64 (rounded (tenth ⊗ angle)) in
    cond (leb bins b) (b - bins) b
