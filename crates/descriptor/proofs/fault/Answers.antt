use mathlib.Core.Path.{sym, ◌∙◌}
use native.Mathlib.Omega.{arith}
use Rattle.descriptor_patch.specs.Patch.{patch_of}
use Rattle.descriptor_words.specs.Words.{turn_at}
use Rattle.descriptor.proofs.Checks.{either_wrong, neither_wrong, fault_shape, size_small, fault_length, fault_fields, aimed, fault_none, fault_sample, ready}
use Rattle.descriptor.proofs.fault.Goals as goal

pub returns-then-shape_wrong-clause-value : goal.returns-then-shape_wrong-clause-value
returns-then-shape_wrong-clause-value c = fault_shape _ _ _ (sym c.shape_wrong.ensures ∙ c.if-shape_wrong.true)

pub overflow_mul-s : goal.overflow_mul-s
overflow_mul-s c = let a = c.args in omega (arith, size_small _ a.p a.img.now (sym c.shape_wrong.ensures ∙ c.if-shape_wrong.false))

pub returns-then-img-s-clause-value : goal.returns-then-img-s-clause-value
returns-then-img-s-clause-value c = fault_length _ _ _ (sym c.shape_wrong.ensures ∙ c.if-shape_wrong.false) c.if-img-s.true

pub returns-then-spot_wrong-turn_wrong-clause-value : goal.returns-then-spot_wrong-turn_wrong-clause-value
returns-then-spot_wrong-turn_wrong-clause-value c =
    let a = c.args in
    fault_fields _ _ _ (sym c.shape_wrong.ensures ∙ c.if-shape_wrong.false) c.if-img-s.false (either_wrong a.s a.p c.spot_wrong.ensures c.turn_wrong.ensures c.if-spot_wrong-turn_wrong.true)

pub turn_at-requires : goal.turn_at-requires
turn_at-requires c =
    let a = c.args in
    let f = neither_wrong a.s a.p c.spot_wrong.ensures c.turn_wrong.ensures c.if-spot_wrong-turn_wrong.false in
    aimed _ _ (sym c.shape_wrong.ensures ∙ c.if-shape_wrong.false) f.0 f.1

pub patch_good-requires : goal.patch_good-requires
unfolding turn_at patch_of
patch_good-requires c = (rw c.turn_at.ensures.0 c.if-img-s.false, c.turn_at.ensures.1)

pub returns-then-patch_good-clause-value : goal.returns-then-patch_good-clause-value
returns-then-patch_good-clause-value c =
    let a = c.args in
    let f = neither_wrong a.s a.p c.spot_wrong.ensures c.turn_wrong.ensures c.if-spot_wrong-turn_wrong.false in
    let g = rw c.turn_at.ensures.0 at (sym c.patch_good.ensures ∙ c.if-patch_good.true) in
    fault_none _ _ _ (sym c.shape_wrong.ensures ∙ c.if-shape_wrong.false) c.if-img-s.false f.0 f.1 g

pub returns-then-patch_good-clause-ready : goal.returns-then-patch_good-clause-ready
returns-then-patch_good-clause-ready c =
    let a = c.args in
    let f = neither_wrong a.s a.p c.spot_wrong.ensures c.turn_wrong.ensures c.if-spot_wrong-turn_wrong.false in
    let g = rw c.turn_at.ensures.0 at (sym c.patch_good.ensures ∙ c.if-patch_good.true) in
    ready _ _ _ (sym c.shape_wrong.ensures ∙ c.if-shape_wrong.false) c.if-img-s.false f.0 f.1 g

pub returns-else-patch_good-clause-value : goal.returns-else-patch_good-clause-value
returns-else-patch_good-clause-value c =
    let a = c.args in
    let f = neither_wrong a.s a.p c.spot_wrong.ensures c.turn_wrong.ensures c.if-spot_wrong-turn_wrong.false in
    let g = rw c.turn_at.ensures.0 at (sym c.patch_good.ensures ∙ c.if-patch_good.false) in
    fault_sample _ _ _ (sym c.shape_wrong.ensures ∙ c.if-shape_wrong.false) c.if-img-s.false f.0 f.1 g
