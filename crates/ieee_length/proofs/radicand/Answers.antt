-- `radicand` meets its contract: the product is a whole number below 2 ^ 48, so nothing is lost on the way. Assumes nothing.
use Rattle.std.proofs.Common.{◌≡◌, ℕ, ◌^◌, ◌<◌, T, ℤ, pos, nat_abs, sym, ap, ◌∙◌, subst, lt_of_lt_of_le, lit≤, w64, Fits, to_z, of_z}
use lib.Signed.{non_neg}
use lib.Ieee.{Float, binary64, mul, of_bits, to_signed}
use mir.ValLaws.{to_z-of_z}
use Rattle.ieee_length.specs.Raised.{digits_bits, radicand_of}
use Rattle.ieee_length.proofs.Digits.{radicand_lt, cast_in, cast_is}
use Rattle.ieee_length.proofs.radicand.Goals as goal

-- as a signed integer, and back
signed : (n : ℕ) (a : Float) → a ≡ of_bits binary64 (digits_bits n) → to_z w64 (of_z w64 (to_signed 63 (mul binary64 a (of_bits binary64 4814348001659060224)))) ≡ pos (radicand_of n)
signed n a e =
    let h : radicand_of n < 2 ^ 63 = lt_of_lt_of_le (radicand_lt n) (lit≤ tt) in
    ap (λ (z : ℤ). to_z w64 (of_z w64 z)) (cast_is n a e) ∙ to_z-of_z w64 (pos (radicand_of n)) (record { sfits = h })

pub float_to_int-result : goal.float_to_int-result
float_to_int-result c = cast_in c.args.n c.raised_digits.result c.raised_digits.ensures

pub overflow_cast-result : goal.overflow_cast-result
overflow_cast-result c =
    let n = c.args.n in
    subst (λ (z : ℤ). T (non_neg z) × Fits w64 (nat_abs z)) (sym (signed n c.raised_digits.result c.raised_digits.ensures)) (tt, record { fits = lt_of_lt_of_le (radicand_lt n) (lit≤ tt) })

pub returns : goal.returns
returns c = ap nat_abs (signed c.args.n c.raised_digits.result c.raised_digits.ensures)
