-- `to_whole` meets its contract: the whole part of m * 2 ^ x / 2 ^ 149 is a shift of m, and from 2 ^ 23 on there is no other part. Assumes nothing.
use mathlib.Core.Path.{sym, ap, ◌∙◌, subst}
use Prim.Native.Nat.{ℕ}
use native.Mathlib.Nat.{le_of_lt}
use lib.Dec.{T}
use lib.Ieee.{binary32, round}
use Rattle.ieee_whole.proofs.Wholes.{whole_other}
use Rattle.ieee_whole.proofs.Casts.{whole_large, whole_small}
use Rattle.ieee_whole.proofs.to_whole.Goals as goal

pub returns-then-p-ge149 : goal.returns-then-p-ge149
returns-then-p-ge149 c =
    let u = c.unpack-p in
    whole_large c.args.x u.result.sign u.result.significand u.result.exponent u.ensures c.args.w (subst T (sym c.well_formed.1.0.1) tt) c.if-p-ge149.true

pub returns-else-p-ge149 : goal.returns-else-p-ge149
returns-else-p-ge149 c =
    let u = c.unpack-p in
    c.signed_f32.ensures
    ∙ ap (λ (k : ℕ). round binary32 u.result.sign k 1) c.whole_size.ensures.value
    ∙ whole_small c.args.x u.result.sign u.result.significand u.result.exponent u.ensures c.args.w (le_of_lt c.if-p-ge149.false)

pub returns-else-is_finite : goal.returns-else-is_finite
returns-else-is_finite c = whole_other c.args.w c.args.x (sym c.is_finite.ensures ∙ c.if-is_finite.false)
