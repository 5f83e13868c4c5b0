use mathlib.Core.Path.{sym, ap, ◌∙◌, subst}
use mathlib.Core.Bool.{not}
use Prim.Native.Nat.{ℕ, ◌+◌, ◌/◌, ◌≤◌}
use native.Mathlib.Omega.{arith}
use lib.Dec.{T, lit<}
use lib.Ieee.{binary64, le, neg, of_bits, fits, is_nan}
use lib.Ieee.Fits.{and_i, and_l, fits_widens}
use Rattle.ieee.specs.Numbers.{nought, two}
use Rattle.hal.specs.Exp.{in_up, up_start, up_rate, up_field, power_of, fixed_of, exp2_of}
use Rattle.hal.proofs.FixedPoint.{no_nan_le}
use Rattle.hal.proofs.ExpLaws.{up_word, exp2_fixed, exp2_is}
use borrow.Author.Rules.{rules}
use Rattle.hal.proofs.exp2.Goals as goal

fields : (u : ℕ) → u ≤ 4294967296 → 104 + u / 2147483648 ≤ 127
fields u h = omega arith

pub float_to_float-x : goal.float_to_float-x
unfolding of_bits neg
float_to_float-x c =
    let x = c.args.x in
    let t : T (in_up x) = subst T (sym (sym c.within.ensures ∙ c.if-within.true)) tt in
    and_i (fits binary64 x) (not (is_nan x)) (fits_widens x (search rules)) (no_nan_le nought x (and_l (le nought x) (le x two) t))

pub float_to_bits-x : goal.float_to_bits-x
unfolding of_bits neg
float_to_bits-x c = (up_word c.args.x (subst T (sym (sym c.within.ensures ∙ c.if-within.true)) tt)).number

pub power-requires : goal.power-requires
unfolding of_bits neg
power-requires c =
    let x = c.args.x in
    let t : T (in_up x) = subst T (sym (sym c.within.ensures ∙ c.if-within.true)) tt in
    (lit< tt, subst (λ (z : ℕ). 104 + z ≤ 127) (sym (up_word x t).whole) (fields (fixed_of up_start up_rate x) (exp2_fixed x t)))

pub returns-then-within : goal.returns-then-within
unfolding of_bits neg
returns-then-within c =
    let x = c.args.x in
    let t : T (in_up x) = subst T (sym (sym c.within.ensures ∙ c.if-within.true)) tt in
    c.power.ensures ∙ ap (power_of up_field) (up_word x t).digits ∙ sym (exp2_is x t)

pub returns-else-within : goal.returns-else-within
unfolding exp2_of of_bits neg
returns-else-within c = simp (c.outside.ensures, sym c.within.ensures ∙ c.if-within.false)
