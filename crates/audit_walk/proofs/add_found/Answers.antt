use mathlib.Core.Path.{◌≡◌, refl, sym, ◌∙◌}
use native.Mathlib.Omega.{arith}
use Rattle.std.specs.Prelude.{Err}
use Rattle.params.specs.Limits.{keypoint_words}
use Rattle.audit_compare.specs.Standing.{standing_of, standing_in}
use Rattle.audit_keypoint.specs.Steps.{given_of, keypoint_step}
use Rattle.audit_keypoint.proofs.Cut.{fold_none}
use Rattle.audit_keypoint.proofs.Fault.{handed_on}
use Rattle.audit_walk.proofs.Parts.{part_next, part_refused}
use Rattle.audit_walk.proofs.add_found.Goals as goal

pub loop-i-init : goal.loop-i-init
loop-i-init c = (omega arith, sym (fold_none _ _ keypoint_words _))

pub returns-in_err-now : goal.returns-in_err-now
returns-in_err-now c =
    let l = c.loop-i in
    let a = c.args in
    let x = c.in_err-now.field-0.0 in
    handed_on c.from_residual.result x c.from_residual.ensures.1
    ∙ part_refused a.gauss.now (given_of a.body.now a.k) a.found.now l.i a.n (standing_of a.a) (standing_of l.now) (standing_in (Err x)) refl c.loop-i-test.true l.invariant.1 c.in_err-now.ensures.value

pub loop-i-preserved : goal.loop-i-preserved
loop-i-preserved c =
    let l = c.loop-i in
    let a = c.args in
    (omega arith, part_next a.found.now l.i (keypoint_step a.gauss.now (given_of a.body.now a.k)) (standing_of a.a) (standing_of l.now) _ l.invariant.1 c.in_ok-now.ensures.value)

pub returns : goal.returns
returns c =
    let l = c.loop-i in
    let e : l.i ≡ c.args.n = omega arith in
    rw e at l.invariant.1
