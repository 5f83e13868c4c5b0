use mathlib.Core.Path.{ap, ◌∙◌}
use native.Mathlib.Omega.{arith}
use lib.Ieee.{Float}
use Rattle.ieee.specs.F32.{◌⊗◌, rounded}
use Rattle.ieee.specs.Numbers.{nought, top_byte}
use Rattle.bounds.specs.Bounds.{clamp_of}
use Rattle.params.specs.Limits.{value_count}
use Rattle.descriptor_values.specs.Values.{finished}
use Rattle.descriptor_values.proofs.Listed.{up_to, filled_none, filled_next, filled_all}
use Rattle.descriptor_values.proofs.finish.Invariants.{value}
use Rattle.descriptor_values.proofs.finish.Goals as goal

pub loop-x-init : goal.loop-x-init
loop-x-init c = filled_none (value c.args.v.now c.scale-by.result) _

pub loop-x-preserved : goal.loop-x-preserved
loop-x-preserved c =
    let l = c.loop-x in
    let by = c.scale-by.result in
    filled_next (λ x. clamp_of (rounded (x ⊗ by)) nought top_byte) c.args.v.now l.v l.x-index (omega arith) l.invariant
    (c.clamp.ensures ∙ ap (λ (x : Float). clamp_of x nought top_byte) c.round_ties_even.ensures)

pub returns : goal.returns
unfolding finished
returns c =
    let v = c.args.v.now in
    c.loop-x.invariant
    ∙ filled_all (value v c.scale-by.result) v c.loop-x.x-index value_count (omega arith) (omega arith) (omega arith)
    ∙ ap (λ (x : Float). up_to (value v x) value_count) c.scale-by.ensures
