use mathlib.Core.Path.{◌≡◌}
use lib.ListN.{drop}
use Rattle.params.specs.Table.{all_good}
use Rattle.samples.proofs.all_good.Given as goal

abbrev pub invariant-loop-from : goal.invariant-loop-from
invariant-loop-from l = all_good l.d ≡ all_good (drop l.from l.d)
