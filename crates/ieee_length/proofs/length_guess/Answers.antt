-- `length_guess` meets its contract: digits that pass the test are the root. Assumes nothing.
use Rattle.std.proofs.Common.{◌≡◌, ℕ, ◌+◌, ◌*◌, ◌/◌, ◌%◌, ◌^◌, ◌<◌, ◌≤◌, Bool, true, ◌&&◌, T, ltb, leb, sym, ap, ◌∙◌, subst, lt_of_le_of_lt, mod-lt, arith, lit<, ltb→lt, leb→le, pow_pos}
use lib.Ieee.{binary64, to_bits}
use lib.Ieee.Fits.{and_l, and_r}
use Rattle.packing.proofs.Fields.{finite_no_nan}
use Rattle.ieee_length.specs.Mild.{small}
use Rattle.ieee_length.proofs.Digits.{digits_small, radicand_lt, radicand_pos, guessed}
use Rattle.ieee_length.proofs.length_guess.Goals as goal

tested : (a k : ℕ) (r : Bool) → r ≡ (ltb (k * k) (a + k) && leb a (k * k + k)) → r ≡ true → (k * k < a + k) × (a ≤ k * k + k)
tested a k r e h =
    let t : T (ltb (k * k) (a + k) && leb a (k * k + k)) = subst T (sym (sym e ∙ h)) tt in
    (ltb→lt (k * k) (a + k) (and_l (ltb (k * k) (a + k)) (leb a (k * k + k)) t), leb→le a (k * k + k) (and_r (ltb (k * k) (a + k)) (leb a (k * k + k)) t))

pub returns-then-n-ne0 : goal.returns-then-n-ne0
returns-then-n-ne0 c =
    let a = c.radicand in
    let n = c.raised_sum-n in
    let k = to_bits binary64 c.cubic_at.result % 2 ^ 25 in
    let w = subst (λ (m : ℕ). (k * k < m + k) × (m ≤ k * k + k)) a.ensures (tested a.result k c.is_nearest.result c.is_nearest.ensures c.if-is_nearest.true) in
    guessed _ n.result k n.ensures c.if-n-ge4044232465647140864.true (λ z. omega (arith, z)) w.0 w.1

pub cubic_at-requires-clause-fact_1 : goal.cubic_at-requires-clause-fact_1
cubic_at-requires-clause-fact_1 c = c.requires.0

pub cubic_at-requires-clause-fact_2 : goal.cubic_at-requires-clause-fact_2
cubic_at-requires-clause-fact_2 c = (mod-lt (c.raised_sum-n.result / 2 ^ 47) (pow_pos 6), ap (small 2) c.raised_digits.ensures ∙ digits_small c.raised_sum-n.result)

pub float_to_bits-k : goal.float_to_bits-k
float_to_bits-k c = finite_no_nan c.cubic_at.result c.cubic_at.ensures

pub is_nearest-requires : goal.is_nearest-requires
is_nearest-requires c = let n = c.raised_sum-n.result in (subst (λ (a : ℕ). 0 < a) (sym c.radicand.ensures) (radicand_pos n), subst (λ (a : ℕ). a < 2 ^ 48) (sym c.radicand.ensures) (radicand_lt n), mod-lt (to_bits binary64 c.cubic_at.result) (pow_pos 25))

pub overflow_cast-result : goal.overflow_cast-result
overflow_cast-result c = record { fits = lt_of_le_of_lt (returns-then-n-ne0 c).small (lit< tt) }
