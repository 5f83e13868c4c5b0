use Prim.Native.Nat.{◌+◌, ◌*◌}
use native.Mathlib.Omega.{arith}
use Rattle.thin.proofs.Faults.{sides, fault_shape, fault_form, fault_points, fault_none, accepted}
use Rattle.thin.proofs.fault.Goals as goal

pub returns-then-shape_wrong-clause-value : goal.returns-then-shape_wrong-clause-value
returns-then-shape_wrong-clause-value c = fault_shape _ _ _ _ _ _ c.shape_wrong.ensures c.if-shape_wrong.true

pub returns-then-q-depth-clause-value : goal.returns-then-q-depth-clause-value
returns-then-q-depth-clause-value c = fault_form _ _ _ _ _ _ c.shape_wrong.ensures c.if-shape_wrong.false c.if-q-depth.true

pub points_right-requires : goal.points_right-requires
points_right-requires c = let s = sides _ _ _ c.shape_wrong.ensures c.if-shape_wrong.false in (omega arith, omega arith)

pub returns-then-not-points_right-clause-value : goal.returns-then-not-points_right-clause-value
returns-then-not-points_right-clause-value c = fault_points _ _ _ _ _ _ c.shape_wrong.ensures c.if-shape_wrong.false c.if-q-depth.false _ c.points_right.ensures c.if-not-points_right.true

pub returns-clause-value : goal.returns-clause-value
returns-clause-value c = fault_none _ _ _ _ _ _ c.shape_wrong.ensures c.if-shape_wrong.false c.if-q-depth.false _ c.points_right.ensures c.if-not-points_right.false

pub returns-clause-accepted : goal.returns-clause-accepted
returns-clause-accepted c =
    accepted _ _ _ _ c.args.depth _ c.shape_wrong.ensures c.if-shape_wrong.false c.if-q-depth.false _ c.points_right.ensures c.if-not-points_right.false
    (λ i l. record { x = omega (arith, c.type_inv.words (10 * i + 0)); y = omega (arith, c.type_inv.words (10 * i + 1)); response = omega (arith, c.type_inv.words (10 * i + 3)) })
