use mathlib.Core.Path.{ap, ◌∙◌}
use native.Mathlib.Omega.{arith}
use lib.Ieee.{Float}
use Rattle.ieee.specs.F32.{◌⊗◌, root_of}
use Rattle.bounds.specs.Bounds.{min_of}
use Rattle.params.specs.Limits.{value_count}
use Rattle.descriptor_values.specs.Values.{clamp_ratio, clamped}
use Rattle.descriptor_values.proofs.Listed.{up_to, filled_none, filled_next, filled_all}
use Rattle.descriptor_values.proofs.clamp_all.Invariants.{value}
use Rattle.descriptor_values.proofs.clamp_all.Goals as goal

pub loop-x-init : goal.loop-x-init
loop-x-init c = filled_none (value c.args.v.now (c.sqrt-thr.result ⊗ clamp_ratio)) _

pub loop-x-preserved : goal.loop-x-preserved
loop-x-preserved c =
    let l = c.loop-x in
    let limit = c.sqrt-thr.result ⊗ clamp_ratio in
    filled_next (λ x. min_of x limit) c.args.v.now l.v l.x-index (omega arith) l.invariant c.min.ensures

pub returns : goal.returns
unfolding clamped
returns c =
    let v = c.args.v.now in
    c.loop-x.invariant
    ∙ filled_all (value v (c.sqrt-thr.result ⊗ clamp_ratio)) v c.loop-x.x-index value_count (omega arith) (omega arith) (omega arith)
    ∙ ap (λ (x : Float). up_to (value v (x ⊗ clamp_ratio)) value_count) (c.sqrt-thr.ensures.value ∙ ap root_of c.nrm2.ensures)
