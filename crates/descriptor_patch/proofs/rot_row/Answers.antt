use Rattle.descriptor_patch.specs.Patch.{rots_of}
use Rattle.descriptor_patch.proofs.rot_row.Goals as goal

pub returns : goal.returns
unfolding rots_of
returns c = rw (c.apart-2.ensures, c.apart.ensures)
