-- What the descriptor asks of a position, a scale and an angle: number 5 of the table (rule A11). Definitions only.
use Rattle.std.specs.Prelude.{ℕ, Bool, false, not, ◌&&◌, ltb, ℤ, pos, negsuc}
use Rattle.std.specs.Float.Ieee.Scale.{finite}
use Rattle.ieee.specs.Numbers.{whole_turn, nought}
use Rattle.params.specs.Limits.{scale_low, scale_high}
use Rattle.params.specs.Table.{within}
use Rattle.picture.specs.declared.Size.{Size}
use Rattle.descriptor_patch.specs.Patch.{cell_of}
use Rattle.picture.specs.declared.Spot.{Spot}

-- a cell of a side of n
abbrev pub on_side : ℕ → ℤ → Bool
on_side n (pos k) = ltb k n
on_side n (negsuc k) = false

-- the position, rounded, in the picture; all floats finite, scale 0.125 to 64, angle 0 to 360
unfoldable pub spot_wrong : Size → Spot → Bool
spot_wrong s p =
    not (finite p.x && (finite p.y && (on_side s.width (cell_of p.x) && on_side s.height (cell_of p.y))))

unfoldable pub turn_wrong : Spot → Bool
turn_wrong p = not (within scale_low scale_high p.scale && within nought whole_turn p.angle)
