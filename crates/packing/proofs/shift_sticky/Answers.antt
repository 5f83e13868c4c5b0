use mathlib.Core.Path.{◌≡◌, refl, sym, ap, ◌∙◌, subst}
use mathlib.Core.Logic.{inl, inr}
use Prim.Native.Nat.{ℕ, suc, ◌+◌, ◌-◌, ◌*◌, ◌/◌, ◌%◌, ◌^◌, ◌≤◌, ◌<◌}
use native.Mathlib.Nat.{le_trans, le_of_eq, lt_of_lt_of_le, lt_of_le_of_lt, zero-mul, one-mul, zero-mod, mul-le-mul_right, div-add-mod', div-mul-le_self, div-le_self, lt-div-mul-add, suc-mul, mod-eq_of_lt}
use native.Mathlib.Omega.{arith}
use lib.Dec.{lit≤}
use lib.Pow.{pow_mono, pow_pos, shr_lt, mod-mod-pow}
use Rattle.lists.proofs.Naturals.{le_or_lt}
use Rattle.packing.specs.Parts.{Sticky}
use Rattle.packing.proofs.Aligned.{doubled}
use Rattle.packing.proofs.shift_sticky.Goals as goal

module _ (b d : ℕ) (some : 0 < b) (in62 : b < 2 ^ 62) (spare : b % 2 ^ 14 ≡ 0) where
  far : 63 ≤ d → Sticky b d 1
  far h = inr (
    0,
    refl,
    subst (λ (x : ℕ). x < b) (sym (zero-mul (2 ^ suc d))) some,
    lt_of_lt_of_le in62 (le_trans (pow_mono {i = 62} {j = suc d} (omega arith)) (le_of_eq (sym (one-mul (2 ^ suc d))))),
    lit≤ tt,
  )

  kept : b / 2 ^ d * 2 ^ d % 2 ^ 64 ≡ b / 2 ^ d * 2 ^ d
  kept = mod-eq_of_lt (lt_of_le_of_lt (div-mul-le_self b (2 ^ d)) (lt_of_lt_of_le in62 (lit≤ tt)))

  whole : b / 2 ^ d * 2 ^ d % 2 ^ 64 ≡ b → Sticky b d (b / 2 ^ d)
  whole e = inl (sym kept ∙ e)

  -- nothing is lost by 14 places or fewer
  near : d ≤ 14 → b / 2 ^ d * 2 ^ d ≡ b
  near l =
      let j : 14 - d + d ≡ 14 = omega arith in
      let z : b % 2 ^ d ≡ 0 = sym (mod-mod-pow b (14 - d) d) ∙ ap (λ (x : ℕ). b % 2 ^ x % 2 ^ d) j ∙ ap (λ (x : ℕ). x % 2 ^ d) spare ∙ zero-mod (2 ^ d) in
      omega (arith, div-add-mod' b (2 ^ d))

  few : 15 ≤ d → b / 2 ^ d < 2 ^ 47
  few l = shr_lt 47 d (lt_of_lt_of_le in62 (pow_mono {i = 62} {j = 47 + d} (omega arith)))

  part : (b / 2 ^ d * 2 ^ d % 2 ^ 64 ≡ b → ⊥) → Sticky b d (b / 2 ^ d / 2 * 2 + 1)
  part n = inr (
    b / 2 ^ d / 2,
    refl,
    subst (λ (x : ℕ). x < b) (doubled (b / 2 ^ d / 2) d) (lt_of_le_of_lt (mul-le-mul_right (2 ^ d) below) lost),
    subst (λ (x : ℕ). b < x) (doubled (suc (b / 2 ^ d / 2)) d) (lt_of_lt_of_le (lt-div-mul-add (pow_pos d)) (le_trans (le_of_eq (sym (suc-mul (b / 2 ^ d) (2 ^ d)))) (mul-le-mul_right (2 ^ d) above))),
    small,
  )
    where
      below : b / 2 ^ d / 2 * 2 ≤ b / 2 ^ d
      below = omega arith

      above : suc (b / 2 ^ d) ≤ suc (b / 2 ^ d / 2) * 2
      above = omega arith

      lost : b / 2 ^ d * 2 ^ d < b
      lost = omega (arith, kept, div-mul-le_self b (2 ^ d))

      small : b / 2 ^ d / 2 * 2 + 1 ≤ 2 ^ 48
      small = elim (le_or_lt d 14) [
        | inl l ↦ absurd (omega (arith, near l, lost))
        | inr l ↦ omega (arith, few l)
      ]

pub returns-then-d-ge63 : goal.returns-then-d-ge63
returns-then-d-ge63 c = far c.args.b c.args.d c.requires.0 c.requires.1 c.requires.2 c.if-d-ge63.true

pub overflow_mul-result : goal.overflow_mul-result
overflow_mul-result c = omega (arith, div-le_self c.args.b (2 ^ c.args.d))

pub overflow_add-result : goal.overflow_add-result
overflow_add-result c = omega (arith, div-le_self c.args.b (2 ^ c.args.d))

pub returns-then-h-d : goal.returns-then-h-d
returns-then-h-d c = whole c.args.b c.args.d c.requires.0 c.requires.1 c.requires.2 c.if-h-d.true

pub returns-else-h-d : goal.returns-else-h-d
returns-else-h-d c = subst (Sticky c.args.b c.args.d) (omega arith) (part c.args.b c.args.d c.requires.0 c.requires.1 c.requires.2 c.if-h-d.false)
