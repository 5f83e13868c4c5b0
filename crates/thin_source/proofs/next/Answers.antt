use native.Mathlib.Omega.{arith}
use Rattle.thin_source.proofs.Topping.{topping_start, topping_turn, next_found}
use Rattle.thin_source.proofs.next.Goals as goal

pub loop-k-init : goal.loop-k-init
loop-k-init c = rw c.places-from.ensures.0 (topping_start _ _ _ _ _ c.requires.covers.stands.order)

pub loop-k-preserved : goal.loop-k-preserved
loop-k-preserved c = topping_turn _ _ _ _ _ _ _ _ _ c.loop-k.invariant (let e = c.places-from.ensures.1 in omega arith) c.candidate.ensures c.stronger-b.ensures

pub returns : goal.returns
returns c = next_found _ _ _ c.requires.ordered.1 c.requires.u_bound _ _ _ _ _ c.requires.ordered.0 c.requires.covers c.edges_of-e.ensures (let e = c.places-from.ensures.1 in omega arith) c.loop-k.invariant
