use Rattle.picture.specs.Picture.{four_at}
use Rattle.descriptor_patch.specs.Patch.{grid_at}
use Rattle.descriptor_reads.proofs.Good.{good_where}
use Rattle.descriptor_reads.proofs.cell_good.Goals as goal

pub returns : goal.returns
returns c = let a = c.args in rw (c.grid_at.ensures, c.four_good.ensures) (good_where (grid_at a.t a.r a.c) (four_at a.img.now a.t.size.width a.r a.c))
