-- The patch about a position (rule P2), its values, and the words that they go out as. Definitions only.
use Rattle.std.specs.Prelude.{ℕ, List, map, ℤ, pos, negsuc, Float}
use Rattle.ieee.specs.F32.{bits_of}
use Rattle.picture.specs.declared.Size.{Size}
use Rattle.descriptor_patch.specs.Patch.{cell_of, patch_of}
use Rattle.descriptor_patch.specs.declared.Patch.{Patch}
use Rattle.descriptor_run.specs.Cells.{samples_of}
use Rattle.descriptor_grid.specs.Grid.{gathered}
use Rattle.descriptor_values.specs.Values.{values_of}
use Rattle.picture.specs.declared.Spot.{Spot}

-- a rounded position as a cell; below 0, the first
abbrev pub cell_at : ℤ → ℕ
cell_at (pos k) = k
cell_at (negsuc k) = 0

-- how the patch about a position lies
unfoldable pub turn_at : Size → Spot → Patch
turn_at s p = patch_of s (cell_at (cell_of p.x)) (cell_at (cell_of p.y)) p.scale p.angle

-- the values of a patch that is accepted
unfoldable pub values_at : List Float → Size → Spot → List Float
values_at img s p = values_of (gathered p.angle (samples_of img (turn_at s p)))

-- and as they are written: each by its bits
unfoldable pub words_at : List Float → Size → Spot → List ℕ
words_at img s p = map bits_of (values_at img s p)
