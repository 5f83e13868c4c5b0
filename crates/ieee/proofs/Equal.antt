-- What a number is that equals a zero, or a power of two below 1. Assumes nothing.
use mathlib.Core.Path.{◌≡◌, refl, sym, ap, ◌∙◌, subst}
use mathlib.Core.Bool.{Bool, true, false, ◌&&◌, ◌||◌, beq, false≢true}
use Prim.Native.Nat.{ℕ, zero, suc, ◌*◌, ◌^◌, ◌<◌}
use native.Mathlib.Nat.{mul-pos, zero-lt-suc, zero-mul, one-mul}
use native.Mathlib.Omega.{arith}
use lib.Dec.{T, eqb, eqb→eq}
use lib.IntN.{ℤ, pos, negsuc}
use lib.Ieee.{Float, nan, inf, fin, binary32, up, down, eq, fits, of_bits}
use lib.Ieee.Exact.{HasValue}
use lib.Ieee.Fits.{and_l, and_r, up_pos, down_pos}
use Rattle.ieee.proofs.Meaning.{zero_held}

same : (a b : ℕ) (t : Bool) → (eqb a b && t) ≡ true → a ≡ b
same a b t g = eqb→eq a b (and_l (eqb a b) t (subst T (sym g) tt))

-- either of the two zeros
pub zero_of : (x : Float) → T (fits binary32 x) → eq x (of_bits binary32 0) ≡ true → (s : Bool) × (x ≡ fin s 0 (pos 0))
unfolding eq of_bits
zero_of nan h e = absurd (false≢true e)
zero_of (inf s) h e = absurd (false≢true e)
zero_of (fin s zero d) h e = (s, ap (λ (z : ℤ). fin s 0 z) (zero_held binary32 s d h))
zero_of (fin s (suc m) d) h e =
    absurd (none (suc m * up d * 1) (0 * 1 * down d) (mul-pos (mul-pos (zero-lt-suc m) (up_pos d)) (zero-lt-suc 0)) (zero-mul (down d)) (same (suc m * up d * 1) (0 * 1 * down d) (beq s false || eqb (suc m * up d * 1) 0) e))
  where
    none : (a b : ℕ) → 0 < a → b ≡ 0 → a ≡ b → ⊥
    none a b p z q = omega arith

-- 2 ^ -(k + 1)
pub power_of_lem : (w : Float) (k : ℕ) → eq w (fin false 1 (negsuc k)) ≡ true → HasValue w false 1 (2 ^ suc k)
unfolding eq
power_of_lem nan k e = absurd (false≢true e)
power_of_lem (inf s) k e = absurd (false≢true e)
power_of_lem (fin t n d) k e =
    let a = n * up d * 2 ^ suc k in
    let q : a ≡ 1 * down d = same a (1 * 1 * down d) (beq t false || eqb a 0) e in
    (plus t a (subst (λ (z : ℕ). 0 < z) (sym (q ∙ one-mul (down d))) (down_pos d)) (and_r (eqb a (1 * 1 * down d)) (beq t false || eqb a 0) (subst T (sym e) tt)), q)
  where
    none : (a : ℕ) → 0 < a → a ≡ 0 → ⊥
    none a p z = omega arith

    plus : (t : Bool) (a : ℕ) → 0 < a → T (beq t false || eqb a 0) → t ≡ false
    plus false a p h = refl
    plus true a p h = absurd (none a p (eqb→eq a 0 h))
