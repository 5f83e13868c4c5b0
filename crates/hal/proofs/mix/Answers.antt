use Rattle.lists.specs.Ranges.{joined}
use Rattle.hal.specs.Powers.{powers, entry_of, pairs}
use Rattle.hal.proofs.TwoByTwo.{pairs_of}
use Rattle.hal.proofs.PairTable.{pair_mixed}
use Rattle.hal.proofs.mix.Goals as goal

pub returns : goal.returns
unfolding powers entry_of pairs joined pairs_of
returns c = pair_mixed c.args.i c.args.g c.requires.0 c.from.ensures c.from-2.ensures
