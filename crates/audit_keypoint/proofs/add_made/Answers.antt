-- The record of a keypoint, its direction and its values is made and compared: the cases of Made. Assumes nothing.
use mathlib.Core.Path.{refl, ◌∙◌}
use lib.ListN.{replicate}
use Rattle.words.specs.Keypoint.{keypoint_in}
use Rattle.words.specs.Oriented.{oriented_in}
use Rattle.audit_compare.specs.Standing.{standing_of}
use Rattle.audit_keypoint.specs.Steps.{given_of}
use Rattle.audit_keypoint.proofs.Fault.{number_some, stopped_bare}
use Rattle.audit_keypoint.proofs.Made.{made_refused, made_compared}
use Rattle.audit_keypoint.proofs.add_made.Goals as goal

pub returns-in_err-make_record : goal.returns-in_err-make_record
returns-in_err-make_record c =
    let a = c.args in
    let g = given_of a.body.now a.k in
    stopped_bare c.from_residual.result c.from_residual.ensures.1
    ∙ made_refused (keypoint_in a.keypoint.now) (oriented_in a.oriented.now) a.values.now a.samples g.layout g.stated (standing_of a.a) _ c.in_err-make_record.ensures.value.0 (number_some _)

pub returns : goal.returns
returns c =
    let a = c.args in
    let g = given_of a.body.now a.k in
    made_compared (keypoint_in a.keypoint.now) (oriented_in a.oriented.now) a.values.now a.samples g.layout g.stated (standing_of a.a) _ (replicate 139 0) _ refl c.in_ok-make_record.ensures.value.0 refl c.in_ok-make_record.ensures.value.1 _ c.compared.ensures
