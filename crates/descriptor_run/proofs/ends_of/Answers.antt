use Rattle.descriptor_run.specs.Cells.{ends_of}
use Rattle.descriptor_run.proofs.ends_of.Goals as goal

pub returns : goal.returns
unfolding ends_of
returns c = rw (c.clip_j.ensures, c.clip_j-rows.ensures, c.apart-i.ensures)
