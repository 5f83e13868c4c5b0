use Rattle.descriptor_patch.specs.Patch.{diagonal_of}
use Rattle.descriptor_patch.proofs.Reach.{diagonal_cuts, radius_near, radius_far}
use Rattle.descriptor_patch.proofs.radius_of.Goals as goal

pub truncating_f32_to_u64-k-requires : goal.truncating_f32_to_u64-k-requires
unfolding diagonal_of
truncating_f32_to_u64-k-requires c =
    let e = c.sqrt-d.ensures.value in
    let k = diagonal_cuts c.args.s c.requires.0 (rw e at c.if-d.true) in
    rw e (record { lower_bound = k.above; upper_bound = k.below })

pub returns-then-d : goal.returns-then-d
unfolding diagonal_of
returns-then-d c =
    let e = radius_near c.args.s c.args.scale _ _ _ c.truncating_f32_to_u64-k.ensures c.sqrt-d.ensures.value c.reach_of-reach.ensures in
    rw c.min.ensures e

pub returns-else-d : goal.returns-else-d
unfolding diagonal_of
returns-else-d c = radius_far c.args.s c.args.scale _ _ c.requires.0 c.if-d.false c.sqrt-d.ensures.value c.reach_of-reach.ensures
