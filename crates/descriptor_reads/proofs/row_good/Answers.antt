use mathlib.Core.Path.{ap, ◌∙◌}
use native.Mathlib.Omega.{arith}
use Rattle.params.specs.Table.{all_good}
use Rattle.descriptor_run.specs.Run.{over_run}
use Rattle.descriptor_run.proofs.Runs.{joined_done}
use Rattle.descriptor_reads.proofs.Good.{good_none, good_more}
use Rattle.descriptor_reads.proofs.row_good.Goals as goal

pub loop-c-init : goal.loop-c-init
loop-c-init c = record { reached = omega arith; so_far = good_none _ _ }

pub loop-c-preserved : goal.loop-c-preserved
loop-c-preserved c =
    let l = c.loop-c in
    record { reached = omega arith; so_far = good_more _ l.c _ l.ok _ l.auto.c l.invariant.so_far c.cell_good-ok.ensures }

pub returns : goal.returns
unfolding over_run
returns c = let l = c.loop-c in l.invariant.so_far ∙ ap all_good (joined_done _ _ l.c _ l.invariant.reached c.loop-c-test.false)
