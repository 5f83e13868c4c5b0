-- What the range says of dx and dy: sizes, and the tests on zero. Assumes nothing.
use mathlib.Core.Path.{◌≡◌, refl}
use mathlib.Core.Logic.{◌⊎◌, inl, inr}
use borrow.Author.Tests.{eq-eqb, ne_eqb}
use mathlib.Core.Bool.{Bool, true, false, not, ◌||◌, beq}
use Prim.Native.Nat.{ℕ, zero, suc, ◌*◌, ◌≤◌, ◌<◌}
use native.Mathlib.Omega.{arith}
use lib.IntN.{ℤ, pos}
use lib.Dec.{T, eqb}
use lib.Ieee.{Float, nan, inf, fin, up, down, le, eq, is_nan, of_bits}
use lib.Ieee.Bits.{is_true}
use lib.Ieee.Fits.{and_l, and_r}
use lib.Ieee.Positive.{num}
use Rattle.ieee.specs.F32.{abs_of}
use Rattle.ieee.specs.Numbers.{nought}
use Rattle.ieee_laws.proofs.Order.{Leq, le_fin}
use Rattle.hal_reach.specs.Reach.{furthest, in_reach, in_angle}

-- the named number is what its page says
pub named : furthest ≡ fin false 1 (pos 21)
unfolding of_bits
named = refl

pub reach_nan : T (in_reach (abs_of nan)) → ⊥
unfolding abs_of le
reach_nan t = t

pub reach_inf : (s : Bool) → T (in_reach (abs_of (inf s))) → ⊥
unfolding abs_of le of_bits
reach_inf s t = t

pub reach_number : (x : Float) → T (in_reach (abs_of x)) → T (not (is_nan x))
reach_number nan t = absurd (reach_nan t)
reach_number (inf s) t = unfold is_nan in tt
reach_number (fin s m e) t = unfold is_nan in tt

pub bounded : (s : Bool) (m : ℕ) (e : ℤ) → T (in_reach (abs_of (fin s m e))) → m * up e ≤ 2097152 * down e
unfolding abs_of of_bits
bounded s m e t = let h : Leq false (m * up e) (down e) false (1 * up (pos 21)) (down (pos 21)) = le_fin false m e false 1 (pos 21) (is_true (in_reach (fin false m e)) t) in omega (arith, h.cross)

pub zero_or : (a : ℕ) → (a ≡ 0) ⊎ (0 < a)
zero_or zero = inl refl
zero_or (suc a) = inr (omega arith)

-- 0 is the one value that equals it
pub zero_of : (s : Bool) (m : ℕ) (e : ℤ) → eq (fin s m e) nought ≡ eqb (m * up e) 0
unfolding eq of_bits
zero_of s m e = elim (zero_or (m * up e)) [
  | inl z ↦ rw (eq-eqb (m * up e * 1) (0 * 1 * down e) (omega arith), eq-eqb (m * up e * 1) 0 (omega arith), eq-eqb (m * up e) 0 z) (either (beq s false))
  | inr p ↦ rw (ne_eqb (m * up e * 1) (0 * 1 * down e) (λ q. no (m * up e) (down e) p q), ne_eqb (m * up e) 0 (λ q. no_zero (m * up e) p q)) refl
]
  where
    either : (b : Bool) → (b || true) ≡ true
    either true = refl
    either false = refl

    no : (a b : ℕ) → 0 < a → a * 1 ≡ 0 * 1 * b → ⊥
    no a b h p = omega arith

    no_zero : (a : ℕ) → 0 < a → a ≡ 0 → ⊥
    no_zero a h p = omega arith

pub zero_num : (x : Float) → T (in_reach (abs_of x)) → eq x nought ≡ eqb (num x) 0
zero_num nan t = absurd (reach_nan t)
zero_num (inf s) t = absurd (reach_inf s t)
zero_num (fin s m e) t = zero_of s m e

-- of both
module _ (dx dy : Float) (h : T (in_angle dx dy)) where
  pub reach_dx : T (in_reach (abs_of dx))
  reach_dx = and_l (in_reach (abs_of dx)) (in_reach (abs_of dy)) h

  pub reach_dy : T (in_reach (abs_of dy))
  reach_dy = and_r (in_reach (abs_of dx)) (in_reach (abs_of dy)) h
