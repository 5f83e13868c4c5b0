use Rattle.thin_source.proofs.Topping.{first_asks, tops_start, tops_above, tops_asks, tops_turn, tops_end}
use Rattle.thin_source.proofs.top.Goals as goal

pub next-t-requires-clause-u_bound : goal.next-t-requires-clause-u_bound
next-t-requires-clause-u_bound c = first_asks _ _ _ _ c.requires.covers.1.high c.requires.le_q.1

pub loop-found-init : goal.loop-found-init
loop-found-init c = tops_start _ _ _ _ _ c.requires.le_q.0 c.requires.covers.1.high c.next-t.ensures

pub overflow_sub-t : goal.overflow_sub-t
overflow_sub-t c = tops_above _ _ _ _ _ c.loop-found.invariant c.loop-found-test.true c.requires.le_q.1

pub next-t-requires-in-loop-found-clause-u_bound : goal.next-t-requires-in-loop-found-clause-u_bound
next-t-requires-in-loop-found-clause-u_bound c = tops_asks _ _ _ _ _ c.loop-found.invariant c.loop-found-test.true c.requires.le_q.1

pub loop-found-preserved : goal.loop-found-preserved
loop-found-preserved c = tops_turn _ _ _ _ _ c.loop-found.invariant c.loop-found-test.true c.requires.le_q.1 _ c.next-t-in-loop-found.ensures

pub returns : goal.returns
returns c = tops_end _ _ _ _ _ c.loop-found.invariant c.loop-found-test.false
