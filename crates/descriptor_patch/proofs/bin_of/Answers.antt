use Rattle.std.proofs.Common.{refl}
use lib.Ieee.{of_bits}
use Rattle.descriptor_patch.proofs.bin_of.Goals as goal

pub returns : goal.returns
unfolding of_bits
returns c = refl
