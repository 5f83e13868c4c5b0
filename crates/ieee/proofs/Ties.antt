-- What `round` makes of a fraction n / den in units: kept * 2 ^ drop is nearest, and where another value is as near, the kept number is even. Assumes nothing.
use mathlib.Core.Path.{◌≡◌, refl, sym, ap, ◌∙◌, subst}
use mathlib.Core.Logic.{◌⊎◌, inl, inr}
use Prim.Native.Nat.{Ordering}
use Prim.Native.Nat.{ℕ, zero, suc, ◌+◌, ◌-◌, ◌*◌, ◌/◌, ◌%◌, ◌^◌, ◌≤◌, ◌<◌, compare}
use native.Mathlib.Nat.{le_refl, le_trans, le_of_eq, le_of_lt, mul_comm, mul_assoc, add-mul, suc-mul, zero-mul, mul-pos, pow-suc, mul-le-mul_right, mul-lt-mul_of_pos_right, div-div-eq-div-mul, eq-zero-or-pos, eq-or-lt_of_le}
use native.Mathlib.Omega.{arith}
use lib.Pow.{pow_pos}
use lib.Ieee.Fits.{nearest-le, kept-lt}
use lib.Ieee.Nearest.{closest}
use lib.Ieee.Order.{drop, kept}
use Rattle.lists.proofs.Naturals.{le_or_lt}
use Rattle.packing.proofs.Half.{cmp_eq, closest_is}
use Rattle.ieee.proofs.Nearby.{bounds, q_ge, step_up, step_down, nearest_up, nearest_down}
use Rattle.ieee.specs.Rounding.{apart}

-- ---- halfway between two whole numbers the even one is closest

tie_at : (a b q r : ℕ) → a ≡ q * b + r → r * 2 ≡ b → 0 < b → closest a b ≡ q + q % 2
tie_at a b q r e h B = closest_is a b q r Ordering.eq e (omega arith) (cmp_eq (r * 2) b h)

tie_up : (a b q : ℕ) → 0 < b → closest a b ≡ q → 2 * a ≡ 2 * (q * b) + b → q % 2 ≡ 0
tie_up a b q B e h =
    let w = tie_at a b q (a - q * b) (omega arith) (omega arith) B in
    omega arith

tie_down : (a b q : ℕ) → 0 < b → closest a b ≡ q → 2 * a + b ≡ 2 * (q * b) → q % 2 ≡ 0
tie_down a b zero B e h = let z = zero-mul b in absurd (omega arith)
tie_down a b (suc q) B e h =
    let s = suc-mul q b in
    let w = tie_at a b q (a - q * b) (omega arith) (omega arith) B in
    omega arith

-- ---- distances, by the side of the midpoint

far_up : (A B n : ℕ) → A ≤ B → 2 * n ≤ A + B → apart A n ≤ apart B n
far_up A B n h l = omega arith

far_down : (A B n : ℕ) → B ≤ A → A + B ≤ 2 * n → apart A n ≤ apart B n
far_down A B n h l = omega arith

pub mid_up : (A B n : ℕ) → A < B → apart B n ≡ apart A n → 2 * n ≡ A + B
mid_up A B n h e = omega arith

mid_down : (A B n : ℕ) → B < A → apart B n ≡ apart A n → 2 * n ≡ A + B
mid_down A B n h e = omega arith

pub differ : (a b : ℕ) → (a ≡ b → ⊥) → (a < b) ⊎ (b < a)
differ a b h = elim (le_or_lt a b) [
  | inr l ↦ inr l
  | inl l ↦ elim (eq-or-lt_of_le l) [ inl e ↦ absurd (h e) | inr g ↦ inl g ]
]

pub half : (p : ℕ) → 1 < p → 2 ^ p ≡ 2 ^ (p - 1) * 2
half p h = ap (λ (x : ℕ). 2 ^ x) (omega arith) ∙ pow-suc 2 (p - 1)

-- ---- n / den to p digits
module _ (p n den : ℕ) (P : 1 < p) (D : 0 < den) where
  P0 : 0 < p
  P0 = omega arith

  abbrev k : ℕ
  k = drop p n den

  abbrev q : ℕ
  q = kept p n den

  abbrev R : ℕ
  R = kept p n den * 2 ^ drop p n den

  step_is : 2 ^ k * den ≡ den * 2 ^ k
  step_is = mul_comm (2 ^ k) den

  R_is : R * den ≡ q * (den * 2 ^ k)
  R_is = mul_assoc q (2 ^ k) den ∙ ap (λ (x : ℕ). q * x) step_is

  U : 0 < den * 2 ^ k
  U = mul-pos D (pow_pos k)

  pub even_up : (y j : ℕ) → y < 2 ^ p → R < y * 2 ^ j → 2 * n ≡ R * den + y * 2 ^ j * den → q % 2 ≡ 0
  even_up y j h l e =
      let s : (R + 2 ^ k) * den ≤ y * 2 ^ j * den = mul-le-mul_right den (step_up p n den P0 D y j h l) in
      let t : (R + 2 ^ k) * den ≡ R * den + 2 ^ k * den = add-mul R (2 ^ k) den in
      let b = (bounds p n den P0 D).0 in
      tie_up n (den * 2 ^ k) q U refl (omega (arith, R_is, step_is))

  even_down : (y j : ℕ) → y < 2 ^ p → y * 2 ^ j < R → 2 * n ≡ R * den + y * 2 ^ j * den → q % 2 ≡ 0
  even_down y j h l e = elim (step_down p n den P0 D y j h l) [
    | inl a ↦
        (let s : (y * 2 ^ j + 2 ^ k) * den ≤ R * den = mul-le-mul_right den a in
        let t : (y * 2 ^ j + 2 ^ k) * den ≡ y * 2 ^ j * den + 2 ^ k * den = add-mul (y * 2 ^ j) (2 ^ k) den in
        let b = (bounds p n den P0 D).1 in
        tie_down n (den * 2 ^ k) q U refl (omega (arith, R_is, step_is)))
    | inr a ↦
        (let s : y * 2 ^ j * den < R * den = mul-lt-mul_of_pos_right l D in
        absurd (omega arith))
  ]

  pub least_far : (y j : ℕ) → y < 2 ^ p → apart (R * den) n ≤ apart (y * 2 ^ j * den) n
  least_far y j h = elim (le_or_lt R (y * 2 ^ j)) [
    | inr l ↦ far_down (R * den) (y * 2 ^ j * den) n (mul-le-mul_right den (le_of_lt l)) (le_trans (le_of_eq (sym (add-mul R (y * 2 ^ j) den))) (nearest_down p n den P0 D y j h l))
    | inl l ↦ elim (eq-or-lt_of_le l) [
      | inl e ↦ le_of_eq (ap (λ (x : ℕ). apart (x * den) n) e)
      | inr g ↦ far_up (R * den) (y * 2 ^ j * den) n (mul-le-mul_right den l) (le_trans (nearest_up p n den P0 D y j h g) (le_of_eq (add-mul R (y * 2 ^ j) den)))
    ]
  ]

  pub tied_even : (y j : ℕ) → y < 2 ^ p → (y * 2 ^ j ≡ R → ⊥) → apart (y * 2 ^ j * den) n ≡ apart (R * den) n → q % 2 ≡ 0
  tied_even y j h ne e = elim (differ (y * 2 ^ j) R ne) [
    | inl l ↦ even_down y j h l (mid_down (R * den) (y * 2 ^ j * den) n (mul-lt-mul_of_pos_right l D) e)
    | inr l ↦ even_up y j h l (mid_up (R * den) (y * 2 ^ j * den) n (mul-lt-mul_of_pos_right l D) e)
  ]

  -- ---- the significand: the kept number, but for a carry into the next power of two
  pub record Kept : Type 0 where
    pub c : ℕ
    pub j : ℕ
    pub digits : c < 2 ^ p
    pub full : (j ≡ 0) ⊎ (2 ^ (p - 1) ≤ c)
    pub is : c * 2 ^ j ≡ R
    pub even : q % 2 ≡ 0 → c % 2 ≡ 0

  q_le : q ≤ 2 ^ p
  q_le =
      le_trans (nearest-le (n / (den * 2 ^ k)) (compare (n % (den * 2 ^ k) * 2) (den * 2 ^ k)))
      (subst (λ (x : ℕ). x < 2 ^ p) (div-div-eq-div-mul n den (2 ^ k)) (kept-lt p (n / den)))

  half_even : 2 ^ (p - 1) % 2 ≡ 0
  half_even =
      let e : 2 ^ (p - 1) ≡ 2 ^ (p - 2) * 2 = ap (λ (x : ℕ). 2 ^ x) (omega arith) ∙ pow-suc 2 (p - 2) in
      omega arith

  pub significant : Kept
  significant = elim (eq-or-lt_of_le q_le) [
    | inr l ↦ record { c = q; j = k; digits = l; full = elim (eq-zero-or-pos k) [ inl z ↦ inl z | inr g ↦ inr (q_ge p n den P0 D g) ]; is = refl; even = λ h. h }
    | inl e ↦
        record {
          c = 2 ^ (p - 1);
          j = suc k;
          digits = let w = half p P in let z = pow_pos (p - 1) in omega arith;
          full = inr (le_refl (2 ^ (p - 1)));
          is = ap (λ (x : ℕ). 2 ^ (p - 1) * x) (pow-suc 2 k ∙ mul_comm (2 ^ k) 2) ∙ sym (mul_assoc (2 ^ (p - 1)) 2 (2 ^ k)) ∙ ap (λ (x : ℕ). x * 2 ^ k) (sym (half p P) ∙ sym e);
          even = λ h. half_even;
        }
  ]
