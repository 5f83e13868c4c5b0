-- `with_sign` meets its contract. Assumes nothing.
use mathlib.Core.Path.{◌≡◌, sym, ap, subst}
use mathlib.Core.Bool.{Bool, true, false, not, cond}
use Prim.Native.Nat.{ℕ, ◌+◌, ◌^◌, ◌≤◌, ◌<◌}
use native.Mathlib.Nat.{zero-add}
use native.Mathlib.Omega.{arith}
use lib.Dec.{T}
use lib.Ieee.{binary32, top, of_bits, nan_bits}
use Rattle.packing.proofs.Plain.{no_nan32, no_nan32_negative}
use Rattle.packing.proofs.with_sign.Goals as goal

in_word : (s : Bool) (b t : ℕ) → b ≤ 2139095040 → t ≡ cond s (top binary32) 0 → t + b < 2 ^ 32
in_word true b t h e = omega arith
in_word false b t h e = omega arith

number : (s : Bool) (b : ℕ) → b ≤ 2139095040 → T (not (nan_bits binary32 (cond s (top binary32) 0 + b)))
number true b h = no_nan32_negative b h
number false b h = subst (λ (n : ℕ). T (not (nan_bits binary32 n))) (sym (zero-add b)) (no_nan32 b h)

pub overflow_add-result : goal.overflow_add-result
overflow_add-result c = omega (arith, in_word c.args.s c.args.b c.sign_bit.result c.requires c.sign_bit.ensures)

pub float_from_bits-result : goal.float_from_bits-result
float_from_bits-result c = subst (λ (t : ℕ). T (not (nan_bits binary32 (t + c.args.b)))) (sym c.sign_bit.ensures) (number c.args.s c.args.b c.requires)

pub returns : goal.returns
returns c = ap (λ (t : ℕ). of_bits binary32 (t + c.args.b)) c.sign_bit.ensures
