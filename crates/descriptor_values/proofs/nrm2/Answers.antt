use Prim.Native.Nat.{◌+◌, ◌*◌}
use mathlib.Core.Path.{refl}
use native.Mathlib.Omega.{arith}
use Rattle.descriptor_values.specs.Values.{lane}
use Rattle.descriptor_values.proofs.Listed.{lane_on, norm_of}
use Rattle.descriptor_values.proofs.nrm2.Goals as goal

pub loop-n-init : goal.loop-n-init
unfolding lane
loop-n-init c = record { first = refl; second = refl; third = refl; fourth = refl }

pub loop-n-preserved : goal.loop-n-preserved
loop-n-preserved c =
    let v = c.args.v.now in
    let n = c.loop-n.n in
    let i = c.loop-n.invariant in
    record {
      first = lane_on v 0 n (4 * n) (omega arith) i.first c.with_square-a.ensures;
      second = lane_on v 1 n (4 * n + 1) refl i.second c.with_square-b.ensures;
      third = lane_on v 2 n (4 * n + 2) refl i.third c.with_square-c.ensures;
      fourth = lane_on v 3 n (4 * n + 3) refl i.fourth c.with_square-d.ensures;
    }

pub returns : goal.returns
returns c =
    let i = c.loop-n.invariant in
    norm_of c.args.v.now c.loop-n.n (omega arith) i.first i.second i.third i.fourth
