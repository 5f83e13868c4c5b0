use mathlib.Core.Path.{refl}
use Rattle.params.specs.Table.{all_good}
use Rattle.samples.proofs.Runs.{good_more, good_over}
use Rattle.samples.proofs.block_good.Goals as goal

pub loop-x-init : goal.loop-x-init
unfolding all_good
loop-x-init c = refl

pub loop-x-preserved : goal.loop-x-preserved
loop-x-preserved c = good_more _ _ c.loop-x.ok _ c.loop-x-test.true c.loop-x.invariant c.good_sample-ok.ensures

pub returns : goal.returns
returns c = good_over c.args.d.now c.args.from c.args.to c.loop-x.x-index c.requires.0 c.loop-x-test.false c.loop-x.invariant
