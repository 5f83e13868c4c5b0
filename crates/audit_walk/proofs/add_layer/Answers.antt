use Prim.Native.Nat.{ℕ, ◌+◌, ◌-◌}
use mathlib.Core.List.{List}
use mathlib.Core.Path.{◌≡◌, refl, ◌∙◌}
use native.Mathlib.Omega.{arith}
use Rattle.std.specs.Prelude.{Err}
use Rattle.params.specs.Limits.{border}
use Rattle.detect_keypoint.specs.declared.RawKeypoint.{RawKeypoint}
use Rattle.detect_extrema.specs.Neighbours.{tied}
use Rattle.detect_extrema.specs.Scan.{row_of, keypoints}
use Rattle.audit_compare.specs.Standing.{standing_of, standing_in}
use Rattle.audit_keypoint.proofs.Fault.{handed_on}
use Rattle.audit_keypoint.specs.Steps.{given_of}
use Rattle.audit_walk.specs.Walk.{passed}
use Rattle.audit_walk.proofs.Passed.{passed_none, passed_more, passed_refused}
use Rattle.audit_walk.proofs.Borders.{bare, inner}
use Rattle.audit_walk.proofs.add_layer.Goals as goal

pub returns-then-t : goal.returns-then-t
unfolding passed
returns-then-t c =
    let a = c.args in
    rw (bare a.dog.now a.k.shape a.s c.if-t.true)

pub overflow_sub-r-end : goal.overflow_sub-r-end
overflow_sub-r-end c = omega (arith, inner c.args.k.shape.width c.args.k.shape.height c.if-t.false)

pub loop-r-init : goal.loop-r-init
loop-r-init c = (omega arith, omega (arith, inner c.args.k.shape.width c.args.k.shape.height c.if-t.false), passed_none _ _ _ border _ border (omega arith))

pub add_row-requires-clause-border_bound : goal.add_row-requires-clause-border_bound
add_row-requires-clause-border_bound c = ((inner _ _ c.if-t.false).0, c.loop-r.invariant.0, c.loop-r-test.true)

pub returns-in_err-now : goal.returns-in_err-now
unfolding keypoints
returns-in_err-now c =
    let l = c.loop-r in
    let a = c.args in
    let g = given_of a.body.now a.k in
    let f : ℕ → List RawKeypoint = λ r. row_of tied a.dog.now a.k.shape a.s r in
    let p = passed_more a.gauss.now g (standing_of a.a) border f l.r (standing_of l.now) _ l.invariant.0 l.invariant.2 c.in_err-now.ensures in
    let x = c.in_err-now.field-0.0 in
    handed_on c.from_residual.result x c.from_residual.ensures.1
    ∙ passed_refused a.gauss.now g (standing_of a.a) border f (standing_in (Err x)) refl (l.r + 1) (a.k.shape.height - border) (omega arith) (omega arith) p

pub loop-r-preserved : goal.loop-r-preserved
loop-r-preserved c =
    let l = c.loop-r in
    let a = c.args in
    (omega arith, omega arith, passed_more a.gauss.now (given_of a.body.now a.k) (standing_of a.a) border (λ r. row_of tied a.dog.now a.k.shape a.s r) l.r (standing_of l.now) _ l.invariant.0 l.invariant.2 c.in_ok-now.ensures)

pub returns : goal.returns
unfolding keypoints
returns c =
    let l = c.loop-r in
    let a = c.args in
    let e : l.r ≡ a.k.shape.height - border = omega arith in
    rw e at l.invariant.2
