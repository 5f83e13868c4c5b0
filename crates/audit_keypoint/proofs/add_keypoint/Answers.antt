-- The picture of a keypoint's layer lies among the planes, and it is turned there: the cases of Keypoint. Assumes nothing.
use mathlib.Core.Path.{refl, ◌∙◌}
use native.Mathlib.Omega.{arith}
use Rattle.std.specs.Prelude.{Err}
use Rattle.audit_compare.specs.Standing.{standing_of, standing_in}
use Rattle.audit_keypoint.specs.Pictures.{plane_size}
use Rattle.audit_keypoint.specs.Steps.{given_of}
use Rattle.audit_keypoint.proofs.Fault.{handed_on}
use Rattle.audit_keypoint.proofs.Bare.{turned_told}
use Rattle.audit_keypoint.proofs.Keypoint.{plane_inside, keypoint_over, keypoint_above, keypoint_turned}
use Rattle.audit_keypoint.proofs.add_keypoint.Goals as goal

pub returns-in_err-a : goal.returns-in_err-a
returns-in_err-a c =
    let x = c.in_err-a.field-0.0 in
    let over = keypoint_over c.args.gauss.now (given_of c.args.body.now c.args.k) (standing_in (Err x)) c.args.keypoint.now refl in
    record { value = handed_on c.from_residual.result x c.from_residual.ensures.1 ∙ rw c.in_err-a.was over; told = rw c.in_err-a.was tt }

pub returns-then-layer-t : goal.returns-then-layer-t
returns-then-layer-t c =
    let a = c.args in
    let p = keypoint_above a.gauss.now (given_of a.body.now a.k) (standing_of c.in_ok-a.a) a.keypoint.now refl _ c.keypoint_in-layer.ensures c.if-layer-t.true in
    record { value = c.stopped.ensures ∙ rw c.in_ok-a.was p; told = rw c.in_ok-a.was p }

pub overflow_mul-from : goal.overflow_mul-from
overflow_mul-from c = omega (arith, plane_inside _ _ (plane_size c.args.k.shape) _ c.if-layer-t.false c.requires.pictured.whole)

pub overflow_add-to : goal.overflow_add-to
overflow_add-to c = omega (arith, plane_inside _ _ (plane_size c.args.k.shape) _ c.if-layer-t.false c.requires.pictured.whole)

pub offset_bounds-gauss-from : goal.offset_bounds-gauss-from
offset_bounds-gauss-from c = omega (arith, plane_inside _ _ (plane_size c.args.k.shape) _ c.if-layer-t.false c.requires.pictured.whole)

pub slice_bounds-add_turned-end : goal.slice_bounds-add_turned-end
slice_bounds-add_turned-end c = omega (arith, plane_inside _ _ (plane_size c.args.k.shape) _ c.if-layer-t.false c.requires.pictured.whole)

pub returns : goal.returns
returns c =
    let a = c.args in
    let r = c.add_turned in
    let turned = keypoint_turned a.gauss.now (given_of a.body.now a.k) (standing_of c.in_ok-a.a) a.keypoint.now refl _ c.keypoint_in-layer.ensures c.if-layer-t.false in
    record { value = rw c.in_ok-a.was (turned _ r.ensures); told = rw c.in_ok-a.was (turned _ (turned_told (given_of a.body.now a.k) _ a.keypoint.now c.in_ok-a.a r.result r.ensures)) }
