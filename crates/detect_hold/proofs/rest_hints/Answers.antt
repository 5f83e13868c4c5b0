use Prim.Native.Nat.{◌-◌}
use mathlib.Core.Path.{◌≡◌}
use native.Mathlib.Omega.{arith}
use Rattle.params.specs.Limits.{border}
use Rattle.detect_hold.proofs.Parts.{hints_none, hints_more, row_hints, hints_few}
use Rattle.detect_hold.proofs.rest_hints.Goals as goal

pub loop-r-init : goal.loop-r-init
loop-r-init c = hints_none _ _ _ _

pub overflow_add-n : goal.overflow_add-n
overflow_add-n c =
    let a = c.args in
    omega (arith, c.loop-r.invariant, hints_few a.dog.now a.t a.s a.from c.loop-r.r (omega arith) (omega arith), row_hints _ _ _ _ _ _ _ c.hint_count-n.ensures)

pub loop-r-preserved : goal.loop-r-preserved
loop-r-preserved c = hints_more _ _ _ _ _ _ _ (omega arith) c.loop-r.invariant c.hint_count-n.ensures

pub returns : goal.returns
returns c =
    let l = c.loop-r in
    let e : l.r ≡ c.args.t.height - border = omega arith in
    rw e at l.invariant
