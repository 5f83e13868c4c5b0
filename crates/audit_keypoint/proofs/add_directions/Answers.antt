-- The loop's invariant: the standing is that after the first j directions. Assumes nothing.
use mathlib.Core.Path.{◌≡◌, refl, ap, ◌∙◌}
use native.Mathlib.Omega.{arith}
use borrow.Author.Rules.{rules}
use Rattle.std.specs.Prelude.{Err}
use Rattle.audit_compare.specs.Standing.{standing_of, standing_in}
use Rattle.audit_keypoint.specs.Steps.{given_of}
use Rattle.audit_keypoint.proofs.Fault.{handed_on}
use Rattle.audit_keypoint.proofs.Directions.{steps_to, steps_none, steps_next, steps_refused}
use Rattle.audit_keypoint.proofs.add_directions.Goals as goal

pub loop-j-init : goal.loop-j-init
loop-j-init c =
    let a = c.args in
    (search rules, steps_none (given_of a.body.now a.k) a.img.now a.keypoint.now a.oriented.now (standing_of a.a))

pub returns-in_err-now : goal.returns-in_err-now
returns-in_err-now c =
    let a = c.args in
    let t = c.loop-j in
    let x = c.in_err-now.field-0.0 in
    handed_on c.from_residual.result x c.from_residual.ensures.1
    ∙ steps_refused (given_of a.body.now a.k) a.img.now a.keypoint.now a.oriented.now (standing_of a.a) t.j a.n (standing_of t.now) (standing_in (Err x)) refl t.invariant.1 c.loop-j-test.true c.in_err-now.ensures

pub loop-j-preserved : goal.loop-j-preserved
loop-j-preserved c =
    let a = c.args in
    let t = c.loop-j in
    (omega arith, steps_next (given_of a.body.now a.k) a.img.now a.keypoint.now a.oriented.now (standing_of a.a) t.j (standing_of t.now) _ t.invariant.1 c.in_ok-now.ensures)

pub returns : goal.returns
returns c =
    let a = c.args in
    let e : c.loop-j.j ≡ a.n = omega arith in
    c.loop-j.invariant.1 ∙ ap (steps_to (given_of a.body.now a.k) a.img.now a.keypoint.now a.oriented.now (standing_of a.a)) e
