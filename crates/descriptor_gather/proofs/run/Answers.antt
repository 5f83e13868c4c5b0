use Prim.Native.Nat.{ℕ, ◌+◌, ◌≤◌}
use mathlib.Core.Path.{ap, ◌∙◌}
use native.Mathlib.Omega.{arith}
use lib.ListN.{length}
use Rattle.descriptor_patch.specs.Patch.{grid_at, sample_at}
use Rattle.descriptor_run.specs.Run.{over_run}
use Rattle.descriptor_run.proofs.Runs.{joined_done}
use Rattle.descriptor_run.proofs.Rules.{good_part}
use Rattle.descriptor_grid.specs.Grid.{gathered_in}
use Rattle.descriptor_gather.proofs.Adds.{holds_none, holds_more, one_most}
use Rattle.descriptor_gather.proofs.run.Goals as goal
use Rattle.descriptor_gather.proofs.run.Goals.{After-cell-n}

pub loop-c-init : goal.loop-c-init
loop-c-init c = record { reached = omega arith; few = omega arith; so_far = holds_none _ _ _ _ }

pub cell-n-requires : goal.cell-n-requires
unfolding over_run
cell-n-requires c =
    let p = c.requires in
    let i = p.1.0 in
    let l = c.loop-c in (
      p.0,
      (
        record { whole = p.0.whole; up = i.up; down = i.down; left = omega (arith, i.left, l.auto.c); right = omega (arith, i.right) },
        good_part _ _ l.c _ p.1.1 l.auto.c c.loop-c-test.true,
      ),
    )

small : (c : After-cell-n) → c.cell-n.result ≤ 1
small c =
    let x = c.args in
    let k = c.loop-c.c in
    rw c.cell-n.ensures.1 (one_most (grid_at x.t x.r k) (sample_at x.img.now x.t x.r k))

both : {n k c : ℕ} → n ≤ c → k ≤ 1 → n + k ≤ c + 1
both h l = omega arith

pub overflow_add-n : goal.overflow_add-n
overflow_add-n c =
    let p = c.requires in
    let k = small c in
    let f = c.loop-c.invariant.few in
    let a = p.1.0.right in
    let b = p.0.lies.wide in
    omega arith

pub loop-c-preserved : goal.loop-c-preserved
loop-c-preserved c =
    let l = c.loop-c in
    record {
      reached = omega arith;
      few = both l.invariant.few (small c);
      so_far = holds_more _ l.c _ l.auto.c l.invariant.so_far c.cell-n.ensures.0 c.cell-n.ensures.1;
    }

pub returns : goal.returns
unfolding over_run
returns c =
    let i = c.loop-c.invariant in
    let k = joined_done _ _ c.loop-c.c _ i.reached c.loop-c-test.false in
    (i.so_far.held ∙ ap (gathered_in _ _) k, i.so_far.count ∙ ap length k)
