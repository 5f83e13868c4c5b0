use Prim.Native.Nat.{◌+◌}
use native.Mathlib.Omega.{arith}
use Rattle.descriptor_run.proofs.Whole.{shifted_is}
use Rattle.descriptor_run.specs.Run.{columns}
use Rattle.descriptor_run.proofs.columns.Goals as goal

pub returns-then-e : goal.returns-then-e
unfolding columns
returns-then-e c = rw c.if-e.true

pub returns-else-e : goal.returns-else-e
unfolding columns
returns-else-e c =
    let lo = shifted_is c.args.px c.floor_to_i32.result (omega arith) (record { sfits = c.floor_to_i32.type_inv }) c.saturating_add_signed-lo.ensures in
    let hi = shifted_is (c.args.px + 2) c.to_i32.result (omega arith) (record { sfits = c.to_i32.type_inv }) c.saturating_add_signed-hi.ensures in
    rw (c.if-e.false, c.max.ensures, c.min.ensures, c.saturating_sub.ensures, lo, hi, c.floor_to_i32.ensures, c.to_i32.ensures, c.floor.ensures)
