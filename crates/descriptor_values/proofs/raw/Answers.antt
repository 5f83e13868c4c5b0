use mathlib.Core.Path.{refl, ap, ◌∙◌}
use mathlib.Core.List.{List}
use native.Mathlib.Omega.{arith}
use lib.Ieee.{Float}
use lib.ListN.{set}
use Rattle.params.specs.Limits.{value_count}
use Rattle.descriptor_values.specs.Values.{raw_of}
use Rattle.descriptor_values.proofs.Listed.{filled_none, filled_more, filled_all}
use Rattle.descriptor_values.proofs.raw.Invariants.{value}
use Rattle.descriptor_values.proofs.raw.Goals as goal

pub loop-n-init : goal.loop-n-init
loop-n-init c = filled_none (value c.args.hist.now) _

pub loop-n-preserved : goal.loop-n-preserved
loop-n-preserved c =
    let l = c.loop-n in
    ap (λ (u : List Float). set u l.n c.folded.result) l.invariant ∙ filled_more (value c.args.hist.now) _ l.n _ (omega arith) c.folded.ensures

pub returns : goal.returns
unfolding raw_of
returns c = c.loop-n.invariant ∙ filled_all (value c.args.hist.now) _ c.loop-n.n value_count refl (omega arith) (omega arith)
