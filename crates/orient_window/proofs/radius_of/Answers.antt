use Rattle.std.proofs.Common.{◌≡◌}
use Rattle.orient_window.specs.Window.{radius_of}
use Rattle.orient_window.proofs.Radius.{radius_cuts}
use Rattle.orient_window.proofs.radius_of.Goals as goal

pub truncating_f32_to_u64-requires : goal.truncating_f32_to_u64-requires
truncating_f32_to_u64-requires c =
    let r = radius_cuts c.args.scale c.requires in
    record {
      lower_bound = rw c.round_ties_even.ensures r.above;
      upper_bound = rw c.round_ties_even.ensures r.below;
    }

pub returns : goal.returns
unfolding radius_of
returns c =
    let r = radius_cuts c.args.scale c.requires in
    let e : c.truncating_f32_to_u64.result ≡ radius_of c.args.scale = cc in
    (e, rw e r.size)
