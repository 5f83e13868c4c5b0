use Prim.Native.Nat.{ℕ, ◌-◌, ◌*◌, ◌%◌, ◌^◌, ◌≤◌, ◌<◌}
use native.Mathlib.Nat.{lt_of_lt_of_le, lt_of_le_of_lt, mod-lt, mul-le-mul}
use native.Mathlib.Omega.{arith}
use lib.Dec.{lit<, lit≤}
use lib.Pow.{pow_pos}
use lib.Ieee.{binary64, to_bits}
use Rattle.packing.proofs.Plain.{above_no_nan}
use Rattle.ieee_root.proofs.Tries.{try_lt, try_small, try_right}
use Rattle.ieee_root.proofs.checked_root.Goals as goal

square_in : (b : ℕ) → b % 2 ^ 25 * (b % 2 ^ 25) < 2 ^ 50
square_in b = let l : b % 2 ^ 25 ≤ 2 ^ 25 - 1 = omega (arith, mod-lt b (pow_pos 25)) in lt_of_le_of_lt (mul-le-mul l l) (lit< tt)

pub float_to_bits-q : goal.float_to_bits-q
float_to_bits-q c = above_no_nan _ c.args.t c.if-t.true

pub overflow_mul-n : goal.overflow_mul-n
overflow_mul-n c = record { fits = lt_of_lt_of_le (square_in (to_bits binary64 c.args.t)) (lit≤ tt) }

pub overflow_add-a-then-t : goal.overflow_add-a-then-t
overflow_add-a-then-t c = omega (arith, try_lt c.args.b c.requires.0 c.requires.1)

pub overflow_add-n : goal.overflow_add-n
overflow_add-n c = omega (arith, square_in (to_bits binary64 c.args.t))

pub returns-then-a-n : goal.returns-then-a-n
returns-then-a-n c =
    let q = to_bits binary64 c.args.t % 2 ^ 25 in
    record {
      small = try_small c.args.b c.requires.0 c.requires.1 q (omega (arith, c.if-n-a.true)) (omega (arith, c.if-a-n.true));
      right = try_right c.args.b c.requires.0 c.requires.1 q (omega (arith, c.if-n-a.true)) (omega (arith, c.if-a-n.true));
    }
