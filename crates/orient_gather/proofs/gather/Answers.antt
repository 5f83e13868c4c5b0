use Rattle.std.proofs.Common.{◌≡◌, ◌+◌, ◌∙◌, ap, arith}
use Rattle.orient_tally.proofs.After.{after, after_none, after_all}
use Rattle.orient_gather.proofs.Runs.{goes, after_run, asked_in}
use Rattle.orient_gather.proofs.gather.Goals as goal

pub loop-k-init : goal.loop-k-init
loop-k-init c = (omega arith, c.fresh-t.ensures ∙ after_none _ _)

pub sample_at-requires : goal.sample_at-requires
sample_at-requires c =
    let g = goes _ _ _ _ _ c.run_at-run.ensures c.cells_at-m.ensures c.requires.cells c.loop-k-test.true in
    asked_in _ _ _ _ _ _ _ c.requires.in_range g c.loop-i-test.true

pub loop-i-preserved : goal.loop-i-preserved
loop-i-preserved c =
    let a = c.requires.cells in
    let g = goes _ _ _ _ _ c.run_at-run.ensures c.cells_at-m.ensures a c.loop-k-test.true in
    after_run _ _ _ _ _ _ _ _ _ a g c.loop-i-test.true c.sample_at.ensures.value (rw (← c.loop-i.invariant) c.add_sample.ensures)

pub overflow_add-k : goal.overflow_add-k
overflow_add-k c =
    let g = goes _ _ _ _ _ c.run_at-run.ensures c.cells_at-m.ensures c.requires.cells c.loop-k-test.true in
    omega (arith, g.most)

pub loop-k-smaller : goal.loop-k-smaller
loop-k-smaller c =
    let g = goes _ _ _ _ _ c.run_at-run.ensures c.cells_at-m.ensures c.requires.cells c.loop-k-test.true in
    omega (arith, g.most, g.some)

pub loop-k-preserved : goal.loop-k-preserved
loop-k-preserved c =
    let g = goes _ _ _ _ _ c.run_at-run.ensures c.cells_at-m.ensures c.requires.cells c.loop-k-test.true in
    let i : c.loop-i.i ≡ c.cells_at-m.result = omega arith in
    (omega (arith, g.most), c.loop-i.invariant ∙ ap (λ m. after c.args.img.now c.args.win (c.loop-k.k + m)) i)

pub returns : goal.returns
returns c =
    let k : c.loop-k.k ≡ c.args.n = omega arith in
    c.loop-k.invariant.1 ∙ ap (after c.args.img.now c.args.win) k ∙ after_all _ _ _ c.requires.cells
