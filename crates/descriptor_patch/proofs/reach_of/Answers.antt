use Rattle.std.proofs.Common.{◌≡◌}
use Rattle.descriptor_patch.specs.Patch.{hist_width, reach_of}
use Rattle.descriptor_patch.proofs.Reach.{reach_cuts, reach_small}
use Rattle.descriptor_patch.proofs.reach_of.Goals as goal

pub truncating_f32_to_u64-requires : goal.truncating_f32_to_u64-requires
truncating_f32_to_u64-requires c =
    let r = reach_cuts c.args.scale c.requires in
    rw c.round_ties_even.ensures (record { lower_bound = r.above; upper_bound = r.below })

pub returns : goal.returns
unfolding reach_of hist_width
returns c =
    let e : c.truncating_f32_to_u64.result ≡ reach_of c.args.scale = cc in
    (e, rw e (reach_small c.args.scale c.requires))
