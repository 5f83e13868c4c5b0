-- `whole_to_i32` meets its contract: the whole part of m * 2 ^ x / 2 ^ 149 is a shift of m. Assumes nothing.
use mathlib.Core.Path.{sym, ap, ◌∙◌}
use Prim.Native.Nat.{ℕ, ◌-◌, ◌*◌, ◌^◌}
use native.Mathlib.Nat.{le_of_lt}
use mir.Syntax.{w32}
use mir.ValLaws.{to_z-of_z}
use lib.Ieee.{to_signed}
use Rattle.ieee.specs.Whole.{saturate}
use Rattle.ieee_whole.proofs.Wholes.{saturate_same, whole_other}
use Rattle.ieee_whole.proofs.Casts.{cast_large, cast_small}
use Rattle.ieee_whole.proofs.whole_to_i32.Goals as goal

pub returns-then-p-ge149 : goal.returns-then-p-ge149
returns-then-p-ge149 c =
    let u = c.unpack-p in
    to_z-of_z w32 c.clamped_i32.result (record { sfits = c.clamped_i32.type_inv })
    ∙ c.clamped_i32.ensures
    ∙ saturate_same u.result.sign c.shifted_up.result (u.result.significand * 2 ^ (u.result.exponent - 149)) c.shifted_up.ensures
    ∙ cast_large c.args.x u.result.sign u.result.significand u.result.exponent u.ensures c.args.w 31 c.if-p-ge149.true

pub returns-else-p-ge149 : goal.returns-else-p-ge149
returns-else-p-ge149 c =
    let u = c.unpack-p in
    to_z-of_z w32 c.signed_i32.result (record { sfits = c.signed_i32.type_inv })
    ∙ c.signed_i32.ensures
    ∙ ap (λ (k : ℕ). saturate 31 u.result.sign k) c.whole_size.ensures.value
    ∙ cast_small c.args.x u.result.sign u.result.significand u.result.exponent u.ensures c.args.w 31 (le_of_lt c.if-p-ge149.false)

pub returns-else-is_finite : goal.returns-else-is_finite
returns-else-is_finite c =
    to_z-of_z w32 c.infinite_to_i32.result (record { sfits = c.infinite_to_i32.type_inv })
    ∙ c.infinite_to_i32.ensures
    ∙ ap (to_signed 31) (whole_other c.args.w c.args.x (sym c.is_finite.ensures ∙ c.if-is_finite.false))
