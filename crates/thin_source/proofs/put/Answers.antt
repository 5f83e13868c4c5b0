use mathlib.Core.Path.{◌∙◌}
use native.Mathlib.Omega.{arith}
use Rattle.thin_rule.proofs.Bytes.{byte_is}
use Rattle.thin_source.proofs.Adding.{add_start, add_turn, add_strong_within, add_strong}
use Rattle.thin_source.proofs.put.Goals as goal

pub loop-k-init : goal.loop-k-init
loop-k-init c = rw c.places-from.ensures.0 (add_start _ _ _ _ _ _ c.requires.stands.order)

pub overflow_add-m : goal.overflow_add-m
overflow_add-m c =
    let z = c.places-from.ensures.1 in
    let h = add_strong_within _ _ _ _ _ _ c.requires.ordered.1 c.requires.ordered.0 c.requires.stands c.edges_of-e.ensures _ _ _ _ _ (add_turn _ _ _ _ _ _ _ _ _ _ _ _ _ c.loop-k.invariant (omega arith) c.candidate-p.ensures c.is_strong-yes.ensures c.put_if.ensures (c.from-m.ensures ∙ byte_is _)) in
    omega arith

pub loop-k-preserved : goal.loop-k-preserved
loop-k-preserved c = add_turn _ _ _ _ _ _ _ _ _ _ _ _ _ c.loop-k.invariant (let e = c.places-from.ensures.1 in omega arith) c.candidate-p.ensures c.is_strong-yes.ensures c.put_if.ensures (c.from-m.ensures ∙ byte_is _)

pub returns : goal.returns
returns c = add_strong _ _ _ _ _ _ c.requires.ordered.1 c.requires.ordered.0 c.requires.stands c.edges_of-e.ensures _ _ _ _ _ c.loop-k.invariant (let e = c.places-from.ensures.1 in omega arith)
