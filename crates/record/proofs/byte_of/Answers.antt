use Rattle.std.proofs.Common.{◌≤◌, true, false, le_trans, arith, lit≤}
use Rattle.ieee_laws.proofs.Wholes.{held}
use Rattle.record.proofs.Bytes.{cut, inside_is, outside_is}
use Rattle.record.proofs.byte_of.Goals as goal

pub truncating_f32_to_u64-n-requires-clause-lower_bound : goal.truncating_f32_to_u64-n-requires-clause-lower_bound
truncating_f32_to_u64-n-requires-clause-lower_bound c =
    let k = cut _ c.if-x.true in
    k.above

pub truncating_f32_to_u64-n-requires-clause-upper_bound : goal.truncating_f32_to_u64-n-requires-clause-upper_bound
truncating_f32_to_u64-n-requires-clause-upper_bound c =
    let k = cut _ c.if-x.true in
    k.below

pub overflow_cast-n : goal.overflow_cast-n
overflow_cast-n c =
    let k : c.truncating_f32_to_u64-n.result ≤ 255 = rw c.truncating_f32_to_u64-n.ensures (cut _ c.if-x.true).size in
    record { fits = omega (arith, k) }

pub int_to_float-n : goal.int_to_float-n
int_to_float-n c =
    let k : c.truncating_f32_to_u64-n.result ≤ 255 = rw c.truncating_f32_to_u64-n.ensures (cut _ c.if-x.true).size in
    held _ (le_trans k (lit≤ tt))

pub returns-then-n-x : goal.returns-then-n-x
returns-then-n-x c =
    let t = c.truncating_f32_to_u64-n.ensures in
    inside_is c.args.bits _ _ true c.of_bits-x.ensures t (rw t (cut _ c.if-x.true).size) c.if-n-x.true

pub returns-then-x : goal.returns-then-x
returns-then-x c =
    let t = c.truncating_f32_to_u64-n.ensures in
    inside_is c.args.bits _ _ false c.of_bits-x.ensures t (rw t (cut _ c.if-x.true).size) c.if-n-x.false

pub returns : goal.returns
returns c = outside_is c.args.bits _ c.of_bits-x.ensures c.if-x.false
