use mathlib.Core.Path.{sym, subst}
use lib.Dec.{T}
use Rattle.hal_reach.proofs.Reach.{reach_dx, reach_dy, reach_number}
use Rattle.hal_angle.proofs.AngleTable.{number_at, angle_at, level_at}
use Rattle.hal_angle.proofs.angle_in.Goals as goal

pub size-a-requires : goal.size-a-requires
size-a-requires c = reach_number c.args.dx (reach_dx c.args.dx c.args.dy (subst T (sym c.requires) tt))

pub size-b-requires : goal.size-b-requires
size-b-requires c = reach_number c.args.dy (reach_dy c.args.dx c.args.dy (subst T (sym c.requires) tt))

pub direction-requires : goal.direction-requires
direction-requires c = number_at c.args.dx c.args.dy c.size-a.result c.size-b.result c.size-a.ensures c.size-b.ensures (subst T (sym c.well_formed.0.1) tt) (subst T (sym c.well_formed.1.0.1) tt) c.requires c.if-s.true

pub returns-then-s : goal.returns-then-s
returns-then-s c =
    angle_at c.args.dx c.args.dy c.size-a.result c.size-b.result c.size-a.ensures c.size-b.ensures c.direction.result c.requires c.if-s.true c.direction.ensures

pub returns-else-s : goal.returns-else-s
returns-else-s c =
    level_at c.args.dx c.args.dy c.size-a.result c.size-b.result c.size-a.ensures c.size-b.ensures c.requires c.if-s.false
