-- A direction is described and its record compared, or a stage refuses it: the cases of Direction. Assumes nothing.
use mathlib.Core.Path.{refl, ◌∙◌}
use lib.ListN.{replicate}
use Rattle.audit_compare.specs.Standing.{standing_of}
use Rattle.audit_keypoint.specs.Steps.{given_of}
use Rattle.audit_keypoint.proofs.Fault.{number_some, stopped_bare}
use Rattle.audit_keypoint.proofs.Direction.{inputs_told, undescribed, step_unfit, step_undescribed, step_made}
use Rattle.audit_keypoint.proofs.add_direction.Goals as goal

pub returns-in_err-spot : goal.returns-in_err-spot
returns-in_err-spot c =
    let a = c.args in
    let g = given_of a.body.now a.k in
    let f = inputs_told a.k.octave c.requires.low _ _ _ c.oriented_in.ensures c.in_err-spot.ensures in
    stopped_bare c.from_residual.result c.from_residual.ensures.1 ∙ step_unfit g a.img.now a.keypoint.now a.oriented.now (standing_of a.a) refl _ f (number_some _)

pub returns-in_err-samples : goal.returns-in_err-samples
returns-in_err-samples c =
    let a = c.args in
    let g = given_of a.body.now a.k in
    let f = inputs_told a.k.octave c.requires.low _ _ _ c.oriented_in.ensures c.in_ok-spot.ensures in
    stopped_bare c.from_residual-in_err-samples.result c.from_residual-in_err-samples.ensures.1
    ∙ step_undescribed g a.img.now a.keypoint.now a.oriented.now (standing_of a.a) refl _ f (replicate 128 0) _ refl _ c.size_of.ensures c.in_err-samples.ensures.value (undescribed _)

pub returns : goal.returns
returns c =
    let a = c.args in
    let g = given_of a.body.now a.k in
    let f = inputs_told a.k.octave c.requires.low _ _ _ c.oriented_in.ensures c.in_ok-spot.ensures in
    step_made g a.img.now a.keypoint.now a.oriented.now (standing_of a.a) refl _ f (replicate 128 0) _ refl _ c.size_of.ensures c.in_ok-samples.ensures.value refl _ refl _ c.in_ok-samples.ensures.out_after _ c.add_made.ensures
