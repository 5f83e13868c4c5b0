use Prim.Native.Nat.{ℕ, ◌+◌, ◌≤◌}
use mathlib.Core.Path.{◌≡◌, refl, sym, ◌∙◌, subst}
use native.Mathlib.Omega.{arith}
use Rattle.params.specs.Table.{all_good}
use lib.ListN.{length, drop}
use Rattle.samples.proofs.Runs.{run_bad, run_good, good_end}
use Rattle.samples.proofs.all_good.Goals as goal

pub loop-from-init : goal.loop-from-init
loop-from-init c = refl

pub returns-then-not-block_good : goal.returns-then-not-block_good
returns-then-not-block_good c =
    run_bad c.args.d.now _ _ _ (omega arith) (omega arith) c.block_good.ensures c.if-not-block_good.true c.loop-from.invariant

pub loop-from-preserved : goal.loop-from-preserved
loop-from-preserved c =
    let d = c.args.d.now in
    let e : c.min.result ≡ c.loop-from.from + 1024 = omega arith in
    subst (λ (n : ℕ). all_good d ≡ all_good (drop n d)) e (run_good d _ _ _ (omega arith) (omega arith) c.block_good.ensures c.if-not-block_good.false c.loop-from.invariant)

pub returns-else-not-block_good : goal.returns-else-not-block_good
returns-else-not-block_good c =
    let d = c.args.d.now in
    let e : length d ≤ c.min.result = omega arith in
    sym (run_good d _ _ _ (omega arith) (omega arith) c.block_good.ensures c.if-not-block_good.false c.loop-from.invariant ∙ good_end d _ e)

pub returns : goal.returns
returns c = sym (c.loop-from.invariant ∙ good_end _ _ c.loop-from-test.false)
