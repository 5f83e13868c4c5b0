use Prim.Native.Nat.{◌+◌, ◌-◌}
use mathlib.Core.Path.{◌≡◌, refl, ap, ◌∙◌}
use native.Mathlib.Omega.{arith}
use lib.ListN.{length}
use lib.Seq.{length-sets}
use Rattle.std.specs.Prelude.{Err, min}
use Rattle.params.specs.Limits.{border}
use Rattle.audit_compare.specs.Standing.{standing_of, standing_in}
use Rattle.audit_keypoint.specs.Steps.{given_of}
use Rattle.audit_keypoint.proofs.Fault.{handed_on}
use Rattle.audit_walk.proofs.Passed.{passed_none}
use Rattle.audit_walk.proofs.Blocks.{block_count}
use Rattle.audit_walk.proofs.Row.{block_on, row_refused, row_whole}
use Rattle.audit_walk.proofs.add_row.Goals as goal

pub loop-lo-init : goal.loop-lo-init
loop-lo-init c =
    let e : min border (c.args.k.shape.width - border) ≡ border = omega arith in
    (refl, rw e (passed_none _ _ _ border _ border (omega arith)))

pub add_found-requires-clause-n_in_bounds : goal.add_found-requires-clause-n_in_bounds
add_found-requires-clause-n_in_bounds c =
    let l = c.loop-lo in
    let a = c.args in
    let room : length c.block_words-n.new.out ≡ 640 = ap length c.block_words-n.ensures.out_after ∙ (simp length-sets) ∙ l.invariant.0 in
    omega (arith, block_count a.dog.now a.k.shape a.s a.r l.lo c.run_end-hi.result _ c.block_words-n.ensures.value, room)

pub returns-in_err-now : goal.returns-in_err-now
returns-in_err-now c =
    let l = c.loop-lo in
    let a = c.args in
    let g = given_of a.body.now a.k in
    let hi = c.run_end-hi.result in
    let x = c.in_err-now.field-0.0 in
    handed_on c.from_residual.result x c.from_residual.ensures.1
    ∙ row_refused a.dog.now a.k.shape a.s a.r a.gauss.now g (standing_of a.a) (standing_in (Err x)) refl hi (omega arith) (omega arith) (block_on a.dog.now a.k.shape a.s a.r a.gauss.now g (standing_of a.a) l.lo (a.k.shape.width - border) hi (omega arith) (omega arith) (omega arith) (standing_of l.now) _ l.invariant.1 l.found _ _ l.invariant.0 c.block_words-n.ensures.value c.block_words-n.ensures.out_after c.in_err-now.ensures)

pub loop-lo-preserved : goal.loop-lo-preserved
loop-lo-preserved c =
    let l = c.loop-lo in
    let a = c.args in
    let g = given_of a.body.now a.k in
    let hi = c.run_end-hi.result in
    let e : hi ≡ min (l.lo + 64) (a.k.shape.width - border) = omega arith in
    let room : length c.block_words-n.new.out ≡ 640 = ap length c.block_words-n.ensures.out_after ∙ (simp length-sets) ∙ l.invariant.0 in
    (room, rw e at (block_on a.dog.now a.k.shape a.s a.r a.gauss.now g (standing_of a.a) l.lo (a.k.shape.width - border) hi (omega arith) (omega arith) e (standing_of l.now) _ l.invariant.1 l.found _ _ l.invariant.0 c.block_words-n.ensures.value c.block_words-n.ensures.out_after c.in_ok-now.ensures))

pub returns : goal.returns
returns c =
    let l = c.loop-lo in
    let a = c.args in
    row_whole a.dog.now a.k.shape a.s a.r a.gauss.now (given_of a.body.now a.k) (standing_of a.a) (min l.lo (a.k.shape.width - border)) (standing_of l.now) (omega arith) l.invariant.1

pub returns-in_ok-now : goal.returns-in_ok-now
returns-in_ok-now c =
    let l = c.loop-lo in
    let a = c.args in
    let g = given_of a.body.now a.k in
    let hi = c.run_end-hi.result in
    row_whole a.dog.now a.k.shape a.s a.r a.gauss.now g (standing_of a.a) hi _ (omega arith)
    (block_on a.dog.now a.k.shape a.s a.r a.gauss.now g (standing_of a.a) l.lo (a.k.shape.width - border) hi (omega arith) (omega arith) (omega arith) (standing_of l.now) _ l.invariant.1 l.found _ _ l.invariant.0 c.block_words-n.ensures.value c.block_words-n.ensures.out_after c.in_ok-now.ensures)
