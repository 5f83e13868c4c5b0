use Rattle.descriptor_patch.specs.Patch.{sample_at}
use Rattle.descriptor_patch.proofs.sample_at.Goals as goal

pub returns : goal.returns
unfolding sample_at
returns c =
    rw (c.bin_of-2.ensures, c.bin_of.ensures, c.slope_at-g.ensures, c.requires.1.1)
