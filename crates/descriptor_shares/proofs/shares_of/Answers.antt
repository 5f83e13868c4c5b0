use mathlib.Core.Path.{refl}
use Rattle.descriptor_shares.specs.Sharing.{shares_of}
use Rattle.descriptor_shares.proofs.shares_of.Goals as goal

pub returns : goal.returns
unfolding shares_of
returns c = refl
