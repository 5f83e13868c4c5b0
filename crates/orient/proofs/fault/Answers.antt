use mathlib.Core.Path.{sym}
use native.Mathlib.Omega.{arith}
use Rattle.orient.proofs.Checks.{size_small, aimed, aimed_fits, ready}
use Rattle.orient.proofs.fault.Goals as goal

pub overflow_mul-s : goal.overflow_mul-s
overflow_mul-s c = omega (arith, size_small _ c.args.k c.args.img.now (sym c.if-shape_wrong.ensures))

pub window_at-requires : goal.window_at-requires
window_at-requires c = aimed _ _ (sym c.if-shape_wrong.ensures) (sym c.if-keypoint_wrong.ensures)

pub window_good-requires : goal.window_good-requires
window_good-requires c = rw c.window_at.ensures (aimed_fits _ _ _ c.if-img-s.false (aimed _ _ (sym c.if-shape_wrong.ensures) (sym c.if-keypoint_wrong.ensures)))

pub returns-clause-ready : goal.returns-clause-ready
returns-clause-ready c =
    let s = sym c.if-shape_wrong.ensures in
    let w = c.if-img-s.false in
    let r = sym c.if-keypoint_wrong.ensures in
    ready _ _ _ s w r (rw (← c.window_at.ensures) (sym c.if-not-window_good.ensures))
