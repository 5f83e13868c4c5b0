-- A keypoint is given its directions, all of which the words lent have room for: the cases of Turned. Assumes nothing.
use mathlib.Core.Path.{refl, ◌∙◌}
use native.Mathlib.Omega.{arith}
use lib.ListN.{replicate}
use Rattle.audit_compare.specs.Standing.{standing_of}
use Rattle.audit_keypoint.specs.Steps.{given_of}
use Rattle.audit_keypoint.proofs.Fault.{stopped_bare}
use Rattle.audit_keypoint.proofs.Turned.{unturned, turn_refused, turn_room, turn_made}
use Rattle.audit_keypoint.proofs.add_turned.Goals as goal

pub returns-in_err-found : goal.returns-in_err-found
returns-in_err-found c =
    let a = c.args in
    stopped_bare c.from_residual.result c.from_residual.ensures.1
    ∙ turn_refused (given_of a.body.now a.k) a.img.now a.keypoint.now _ c.keypoint_in-raw.ensures (replicate 108 0) refl _ _ c.size_of.ensures c.in_err-found.ensures.value (unturned _) (standing_of a.a)

pub add_directions-requires-clause-n_in_bounds : goal.add_directions-requires-clause-n_in_bounds
add_directions-requires-clause-n_in_bounds c =
    let a = c.args in
    let r = turn_room (given_of a.body.now a.k) a.img.now a.keypoint.now _ c.keypoint_in-raw.ensures (replicate 108 0) refl _ _ c.size_of.ensures c.in_ok-found.ensures.value _ refl _ c.in_ok-found.ensures.out_after in
    omega (arith, r)

pub returns : goal.returns
returns c =
    let a = c.args in
    turn_made (given_of a.body.now a.k) a.img.now a.keypoint.now _ c.keypoint_in-raw.ensures (replicate 108 0) refl _ _ c.size_of.ensures c.in_ok-found.ensures.value _ refl _ c.in_ok-found.ensures.out_after (standing_of a.a) _ c.add_directions.ensures
