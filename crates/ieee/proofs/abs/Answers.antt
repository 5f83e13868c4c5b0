-- `abs` meets its contract: the sign's bit is the sign. Assumes nothing.
use mathlib.Core.Path.{◌≡◌, refl, sym, ap, ◌∙◌, subst}
use mathlib.Core.Bool.{not}
use Prim.Native.Nat.{ℕ, ◌%◌, ◌^◌, ◌≤◌, ◌<◌}
use native.Mathlib.Omega.{arith}
use lib.Dec.{T}
use lib.Ieee.{Float, nan, binary32, fits, is_nan, nan_bits, of_bits, to_bits}
use lib.Ieee.Bits.{to_bits-lt}
use Rattle.ieee.specs.F32.{abs_of}
use Rattle.ieee.proofs.Patterns.{is_nan_lem, is_number, of_number, number_low, clear_is}
use Rattle.ieee.proofs.abs.Goals as goal
use Rattle.ieee.proofs.abs.Goals.{Start}

abs_nan : abs_of nan ≡ nan
unfolding abs_of
abs_nan = refl

held : (c : Start) → T (fits binary32 c.args.x)
held c = subst T (sym c.well_formed.0.1) tt

module _ (x : Float) (h : T (fits binary32 x)) (n : T (not (is_nan x))) where
  below : to_bits binary32 x < 2 ^ 32
  below = to_bits-lt binary32 x h

  low : to_bits binary32 x % 2 ^ 31 ≤ 2139095040
  low = number_low binary32 x h n

  -- b is the pattern without its sign
  cleared : (b : ℕ) → b ≡ to_bits binary32 x % 2 ^ 31 → of_bits binary32 b ≡ abs_of x
  cleared b e = ap (of_bits binary32) e ∙ clear_is binary32 x h n

number : (b : ℕ) → b % 2 ^ 31 ≤ 2139095040 → T (not (nan_bits binary32 b))
number b h = of_number binary32 b h

pub float_to_bits-result : goal.float_to_bits-result
float_to_bits-result c = is_number c.args.x c.if-x.false

pub float_from_bits-result : goal.float_from_bits-result
float_from_bits-result c =
    let x = c.args.x in
    let n = is_number x c.if-x.false in
    number _ (omega (arith, below x (held c.before) n, low x (held c.before) n))

pub returns-then-x : goal.returns-then-x
returns-then-x c = let e = is_nan_lem c.args.x c.if-x.true in e ∙ sym (ap abs_of e ∙ abs_nan)

pub returns-else-x : goal.returns-else-x
returns-else-x c = cleared c.args.x (held c.before) (is_number c.args.x c.if-x.false) _ (omega arith)
