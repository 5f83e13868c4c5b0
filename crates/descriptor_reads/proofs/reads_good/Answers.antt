use mathlib.Core.Path.{ap, ◌∙◌}
use native.Mathlib.Omega.{arith}
use Rattle.params.specs.Table.{all_good}
use Rattle.picture.specs.Picture.{four_at}
use Rattle.descriptor_run.specs.Cells.{reads_of}
use Rattle.descriptor_run.specs.Run.{row_of}
use Rattle.descriptor_run.proofs.Runs.{joined_done, over_cells_lem, inner}
use Rattle.descriptor_reads.proofs.Good.{good_none, good_more}
use Rattle.descriptor_reads.proofs.reads_good.Goals as goal

pub loop-r-init : goal.loop-r-init
loop-r-init c = record { reached = omega arith; so_far = good_none _ _ }

pub row_good-ok-requires : goal.row_good-ok-requires
row_good-ok-requires c =
    let a = c.args in
    let p = c.requires in
    let u = rw c.first_in-top.ensures at c.loop-r.auto.r in
    let v = rw c.past_in-bottom.ensures at c.loop-r-test.true in
    rw c.run_of.ensures (p.0, (p.1, inner a.t c.loop-r.r p.1 u v))

pub loop-r-preserved : goal.loop-r-preserved
unfolding row_of
loop-r-preserved c =
    let l = c.loop-r in
    record { reached = omega arith; so_far = good_more _ l.r _ l.ok _ l.auto.r l.invariant.so_far (rw c.run_of.ensures at c.row_good-ok.ensures) }

pub returns : goal.returns
unfolding reads_of
returns c =
    let l = c.loop-r in
    let a = c.args in
    l.invariant.so_far
    ∙ ap all_good (joined_done _ _ l.r _ l.invariant.reached c.loop-r-test.false
    ∙ rw (c.first_in-top.ensures, c.past_in-bottom.ensures) (over_cells_lem a.t (four_at a.img.now a.t.size.width)))
