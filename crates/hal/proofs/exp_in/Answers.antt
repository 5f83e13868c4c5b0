use mathlib.Core.Path.{sym, ap, ◌∙◌, subst}
use mathlib.Core.Bool.{not}
use Prim.Native.Nat.{ℕ, ◌+◌, ◌*◌, ◌/◌, ◌≤◌}
use native.Mathlib.Omega.{arith}
use lib.Dec.{T, lit<}
use lib.Ieee.{Float, binary64, le, neg, of_bits, fits, is_nan}
use lib.Ieee.Fits.{and_i, and_l, fits_widens}
use Rattle.ieee.specs.Numbers.{nought}
use Rattle.hal.specs.Numbers.{minus32}
use Rattle.hal.specs.Exp.{in_down, down_start, down_rate, down_field, power_of, fixed_of}
use Rattle.hal.proofs.FixedPoint.{no_nan_le}
use Rattle.hal.proofs.ExpLaws.{down_word, exp_fixed, exp_is}
use borrow.Author.Rules.{rules}
use Rattle.hal.proofs.exp_in.Goals as goal

fields : (u : ℕ) → u ≤ 47 * 2147483648 → 57 + u / 2147483648 ≤ 127
fields u h = omega arith

known : (x : Float) → T (in_down x) → T (not (is_nan x))
known x t = no_nan_le minus32 x (and_l (le minus32 x) (le x nought) t)

pub float_to_float-x : goal.float_to_float-x
unfolding of_bits neg
float_to_float-x c =
    let x = c.args.x in
    and_i (fits binary64 x) (not (is_nan x)) (fits_widens x (search rules)) (known x (subst T (sym c.requires) tt))

pub float_to_bits-x : goal.float_to_bits-x
unfolding of_bits neg
float_to_bits-x c = (down_word c.args.x (subst T (sym c.requires) tt)).number

pub power-requires : goal.power-requires
unfolding of_bits neg
power-requires c =
    let x = c.args.x in
    let t : T (in_down x) = subst T (sym c.requires) tt in
    (lit< tt, subst (λ (z : ℕ). 57 + z ≤ 127) (sym (down_word x t).whole) (fields (fixed_of down_start down_rate x) (exp_fixed x t)))

pub returns : goal.returns
unfolding of_bits neg
returns c =
    let x = c.args.x in
    let t : T (in_down x) = subst T (sym c.requires) tt in
    c.power.ensures ∙ ap (power_of down_field) (down_word x t).digits ∙ sym (exp_is x t)
