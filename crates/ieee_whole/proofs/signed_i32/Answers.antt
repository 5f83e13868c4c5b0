use mathlib.Core.Path.{◌≡◌, sym, ap, ◌∙◌, subst}
use Prim.Native.Nat.{ℕ, zero, suc, ◌-◌, ◌^◌, ◌<◌, min}
use native.Mathlib.Nat.{le_of_lt}
use native.Mathlib.Omega.{arith}
use lib.IntN.{ℤ, pos, neg_ℤ, ◌-ℤ◌, +ℤ_idl}
use mir.Syntax.{w32}
use mir.Val.{SFits, to_z}
use mir.ValLaws.{to_z_pos, to_z-of_z}
use Rattle.ieee_whole.proofs.Wholes.{saturate_minus, saturate_plus}
use Rattle.ieee_whole.proofs.signed_i32.Goals as goal

minus : (k : ℕ) → pos 0 -ℤ pos k ≡ neg_ℤ (pos k)
minus k = +ℤ_idl (neg_ℤ (pos k))

negated : (k : ℕ) → k < 2 ^ 31 → pos 0 -ℤ to_z w32 k ≡ neg_ℤ (pos k)
negated k h = ap (λ (z : ℤ). pos 0 -ℤ z) (to_z_pos w32 k h) ∙ minus k

fits_neg : (k : ℕ) → k < 2 ^ 31 → SFits w32 (neg_ℤ (pos k))
fits_neg zero h = record { sfits = h }
fits_neg (suc k) h = record { sfits = le_of_lt h }

fits_sub : (k : ℕ) → k < 2 ^ 31 → SFits w32 (pos 0 -ℤ to_z w32 k)
fits_sub k h = subst (SFits w32) (sym (negated k h)) (fits_neg k h)

itself : (k : ℕ) → k < 2 ^ 31 → k ≡ min k (2 ^ 31)
itself k h = omega arith

itself_short : (k : ℕ) → k < 2 ^ 31 → k ≡ min k (2 ^ 31 - 1)
itself_short k h = omega arith

pub overflow_sub-result : goal.overflow_sub-result
overflow_sub-result c = fits_sub c.args.k c.requires

pub returns-then-s : goal.returns-then-s
returns-then-s c = saturate_minus c.args.s c.args.k _ c.if-s.true (to_z-of_z w32 (pos 0 -ℤ to_z w32 c.args.k) (fits_sub c.args.k c.requires) ∙ negated c.args.k c.requires ∙ ap (λ (x : ℕ). neg_ℤ (pos x)) (itself c.args.k c.requires))

pub returns-else-s : goal.returns-else-s
returns-else-s c = saturate_plus c.args.s c.args.k _ c.if-s.false (to_z_pos w32 c.args.k c.requires ∙ ap (λ (x : ℕ). pos x) (itself_short c.args.k c.requires))
