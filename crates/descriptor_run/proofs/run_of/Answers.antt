use Rattle.descriptor_run.specs.Run.{run_of}
use Rattle.descriptor_run.proofs.run_of.Goals as goal

pub returns : goal.returns
unfolding run_of
returns c = rw (c.columns.ensures, c.first_in-a.ensures, c.past_in-b.ensures, c.ends_of.ensures)
