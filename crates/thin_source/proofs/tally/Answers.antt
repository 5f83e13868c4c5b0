use mathlib.Core.Path.{◌∙◌}
use native.Mathlib.Omega.{arith}
use Rattle.thin_source.proofs.Sources.{tally_start, tally_turn, tally_small, tally_strong}
use Rattle.thin_rule.proofs.Bytes.{byte_is, byte_most}
use Rattle.thin_source.proofs.tally.Goals as goal

pub loop-k-init : goal.loop-k-init
loop-k-init c = rw c.places-from.ensures.0 (tally_start _ _ _ _ c.requires.stands.order)

pub overflow_add-m : goal.overflow_add-m
overflow_add-m c = let h = tally_small _ _ _ _ _ _ c.loop-k.invariant in let y = byte_most c.is_strong.result in omega arith

pub loop-k-preserved : goal.loop-k-preserved
loop-k-preserved c = tally_turn _ _ _ _ _ _ _ _ _ c.loop-k.invariant (let e = c.places-from.ensures.1 in omega arith) c.candidate.ensures c.is_strong.ensures (c.from-m.ensures ∙ byte_is _)

pub returns : goal.returns
returns c = tally_strong _ _ _ _ _ _ c.requires.ordered.1 c.requires.ordered.0 c.requires.stands c.edges_of-e.ensures _ _ c.loop-k.invariant (let e = c.places-from.ensures.1 in omega arith)
