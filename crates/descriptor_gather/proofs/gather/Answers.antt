use Prim.Native.Nat.{ℕ, ◌+◌, ◌*◌, ◌^◌, ◌<◌, ◌≤◌}
use mathlib.Core.Path.{◌≡◌, ap, ◌∙◌}
use native.Mathlib.Omega.{arith}
use lib.ListN.{length}
use Rattle.lists.specs.Ranges.{joined}
use Rattle.params.specs.Limits.{max_side}
use Rattle.descriptor_run.specs.Cells.{samples_of}
use Rattle.descriptor_run.specs.Run.{run_of, row_of}
use Rattle.descriptor_run.proofs.Runs.{joined_done, over_cells_lem, run_within, inner}
use Rattle.descriptor_grid.specs.Grid.{gathered_in}
use Rattle.descriptor_gather.specs.Gather.{sample_in}
use Rattle.descriptor_gather.proofs.Adds.{holds_none, holds_more, run_most, more_rows, below_side, row_good_lem}
use Rattle.descriptor_gather.proofs.gather.Goals as goal
use Rattle.descriptor_gather.proofs.gather.Goals.{After-run-n}

pub loop-r-init : goal.loop-r-init
loop-r-init c = record { reached = omega arith; few = omega arith; so_far = holds_none _ _ _ _ }

pub run-n-requires : goal.run-n-requires
run-n-requires c =
    let x = c.args in
    let p = c.requires in
    let l = c.loop-r in
    let a = rw c.first_in-top.ensures at l.auto.r in
    let b = rw c.past_in-bottom.ensures at c.loop-r-test.true in
    rw c.run_of-e.ensures (p.0, (inner x.t l.r p.0.lies a b, row_good_lem x.img.now x.t l.r p.1 a b))

small : (c : After-run-n) → c.run-n.result ≤ c.args.t.size.width
small c =
    let x = c.args in
    let r = c.loop-r.r in
    let e = rw c.run_of-e.ensures at c.run-n.ensures.1 in
    let q = (run_within x.t r c.requires.0.lies).1 in
    let k = run_most x.img.now x.t r (run_of x.t r) in
    omega (arith, e)

near : (c : After-run-n) → c.loop-r.r < max_side
near c =
    let x = c.args in
    below_side x.t.py x.t.radius x.t.size.height c.loop-r.r (rw c.past_in-bottom.ensures at c.loop-r-test.true) c.requires.0.lies.high

room : {m r : ℕ} → m ≤ max_side * (r + 1) → r < max_side → m < 2 ^ 64
room h k = omega arith

pub overflow_add-n : goal.overflow_add-n
overflow_add-n c =
    let l = c.loop-r in
    let k = more_rows l.r l.invariant.few (small c) c.requires.0.lies.wide in
    let b = near c in
    record { fits = room k b }

pub loop-r-preserved : goal.loop-r-preserved
unfolding row_of
loop-r-preserved c =
    let l = c.loop-r in
    let e = rw c.run_of-e.ensures at c.run-n.ensures in
    record {
      reached = omega arith;
      few = more_rows l.r l.invariant.few (small c) c.requires.0.lies.wide;
      so_far = holds_more _ l.r _ l.auto.r l.invariant.so_far e.0 e.1;
    }

pub returns : goal.returns
unfolding samples_of
returns c =
    let i = c.loop-r.invariant in
    let x = c.args in
    let f = row_of x.t (sample_in x.img.now x.t) in
    let d : joined c.first_in-top.result c.past_in-bottom.result f ≡ samples_of x.img.now x.t =
    rw (c.first_in-top.ensures, c.past_in-bottom.ensures) (over_cells_lem x.t (sample_in x.img.now x.t)) in
    let k = joined_done _ _ c.loop-r.r _ i.reached c.loop-r-test.false ∙ d in
    (i.so_far.held ∙ ap (gathered_in _ _) k, i.so_far.count ∙ ap length k)
