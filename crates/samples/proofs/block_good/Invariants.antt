use mathlib.Core.Path.{◌≡◌}
use lib.ListN.{take}
use Rattle.params.specs.Table.{all_good}
use Rattle.samples.proofs.block_good.Given as goal

abbrev pub invariant-loop-x : goal.invariant-loop-x
invariant-loop-x l = l.ok ≡ all_good (take l.x-index l.x-items)
