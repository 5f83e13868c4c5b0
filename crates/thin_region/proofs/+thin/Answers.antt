use Rattle.std.proofs.Common.{refl, arith}
use Rattle.thin_region.proofs.Turns.{case_all, case_best, room_all, room_best, not_last, rounds_start, rounds_covers, rounds_room, rounds_turn, rounds_end, depth_falls, next_ordered, next_some}
use Rattle.thin_region.proofs.+thin.Goals as goal

pub put-requires-clause-t_bound : goal.put-requires-clause-t_bound
put-requires-clause-t_bound t c = room_all _ 0 _ _ _ _ c.hold-f.ensures.many_value.1 _ _ c.hold-f.ensures.many_value.0 c.if-f-q.true c.requires.le_q.1

pub returns-then-f-q-clause-added : goal.returns-then-f-q-clause-added
returns-then-f-q-clause-added t c = case_all _ _ _ _ _ _ c.hold-f.ensures.many_value.1 _ c.hold-f.ensures.many_value.0 c.if-f-q.true _ _ _ _ c.put.ensures

pub put-requires-then-q-depth-clause-t_bound : goal.put-requires-then-q-depth-clause-t_bound
put-requires-then-q-depth-clause-t_bound t c = room_best _ 0 _ _ _ _ c.hold-f.ensures.many_value.1 _ _ c.cut-t.ensures c.requires.le_q.1

pub returns-then-q-depth-clause-added : goal.returns-then-q-depth-clause-added
returns-then-q-depth-clause-added t c = case_best _ _ _ _ _ _ c.hold-f.ensures.many_value.1 _ _ c.requires.ordered.1 c.hold-f.ensures.many_value.0 (omega arith) c.if-q-depth.true c.cut-t.ensures _ _ _ _ c.put-then-q-depth.ensures

pub loop-k-init : goal.loop-k-init
loop-k-init t c = rounds_start _ _ _ _ _ _ _ _ _

pub thin-end-requires : goal.thin-end-requires
thin-end-requires t c =
    let n = not_last c.args.q c.args.depth c.if-q-depth.false in (
      depth_falls _ _ n.1 c.decreases,
      (
        (next_ordered _ _ _ c.quarter_of.ensures c.requires.ordered.0, c.requires.ordered.1),
        (
          (rounds_covers _ _ _ _ _ _ _ _ _ _ _ _ _ _ c.split-b.ensures c.loop-k.invariant c.loop-k-test.true _ _ c.quarter_of.ensures c.source_of.ensures, c.requires.covers.1),
          (
            next_some _ _ _ c.share_of.ensures n.0,
            rounds_room _ _ _ _ _ _ _ _ _ _ _ _ _ _ c.split-b.ensures c.loop-k.invariant c.loop-k-test.true c.requires.ordered.1 c.requires.ordered.0 _ c.share_of.ensures c.requires.le_q.1,
          ),
        ),
      ),
    )

pub loop-k-preserved : goal.loop-k-preserved
loop-k-preserved t c = rounds_turn _ _ _ _ _ _ _ _ _ _ _ _ _ _ c.split-b.ensures c.loop-k.invariant c.loop-k-test.true _ _ _ _ _ _ c.quarter_of.ensures c.share_of.ensures c.source_of.ensures c.thin-end.auto.s c.thin-end.ensures.added c.thin-end.ensures.beside

pub returns-clause-added : goal.returns-clause-added
returns-clause-added t c =
    let n = not_last c.args.q c.args.depth c.if-q-depth.false in
    rounds_end _ _ _ _ _ _ _ _ _ _ _ _ _ _ _ c.requires.ordered.0 c.hold-f.ensures.many_value.0 (omega arith) n.0 n.1 refl (let l = c.loop-k.invariant.few in omega arith) c.loop-k.invariant
