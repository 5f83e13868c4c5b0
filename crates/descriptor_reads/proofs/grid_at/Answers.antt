use Rattle.descriptor_patch.specs.Patch.{grid_at}
use Rattle.descriptor_reads.proofs.grid_at.Goals as goal

pub returns : goal.returns
unfolding grid_at
returns c = rw (c.in_grid.ensures, c.bin_of.ensures, c.rot_row.ensures, c.in_grid-2.ensures, c.bin_of-2.ensures, c.rot_col.ensures)
