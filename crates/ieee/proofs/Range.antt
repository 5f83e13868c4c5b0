-- Where the result overflows: exactly from the threshold on. Assumes nothing.
use mathlib.Core.Path.{◌≡◌, sym, ap, ◌∙◌, subst}
use mathlib.Core.Logic.{◌⊎◌, inl, inr}
use Prim.Native.Nat.{ℕ, suc, ◌+◌, ◌-◌, ◌*◌, ◌%◌, ◌^◌, ◌≤◌, ◌<◌}
use native.Mathlib.Nat.{le_trans, le_of_eq, le_antisymm, lt_of_lt_of_le, lt_of_le_of_lt, mul_comm, mul_assoc, mul_left_comm, add-mul, one-mul, pow-suc, mul-le-mul_left, mul-le-mul_right, mul-lt-mul_of_pos_right, le_of_mul-le-mul_right, lt_of_mul-lt-mul_right, eq-or-lt_of_le}
use native.Mathlib.Omega.{arith}
use lib.Pow.{pow-add, pow_pos, pow_mono, pow-lt}
use lib.Ieee.Order.{drop, kept}
use Rattle.lists.proofs.Naturals.{le_or_lt}
use Rattle.ieee.proofs.Nearby.{nearest_up, nearest_down}
use Rattle.ieee.proofs.Ties.{half, Kept, significant, even_up}

ruleset ac = (mul_assoc, mul_comm, mul_left_comm)

-- ---- the threshold in units
left_is : (n l P : ℕ) → 2 * (n * l) * P ≡ n * P * (l * 2)
left_is n l P = simp ac

right_is : (κ P E l T d : ℕ) → κ * P ≡ E * (l * 2) → κ * T * d * P ≡ E * T * d * (l * 2)
right_is κ P E l T d e =
    let a : κ * T * d * P ≡ κ * P * (T * d) = simp ac in
    let b : E * (l * 2) * (T * d) ≡ E * T * d * (l * 2) = simp ac in
    a ∙ ap (λ (x : ℕ). x * (T * d)) e ∙ b

pub below_units : (n l P E κ T d : ℕ) → 0 < l → κ * P ≡ E * (l * 2) → n * P < E * T * d → 2 * (n * l) < κ * T * d
below_units n l P E κ T d L e h =
    lt_of_mul-lt-mul_right P (lt_of_le_of_lt (le_of_eq (left_is n l P)) (lt_of_lt_of_le (mul-lt-mul_of_pos_right h (omega arith)) (le_of_eq (sym (right_is κ P E l T d e)))))

pub above_units : (n l P E κ T d : ℕ) → 0 < P → κ * P ≡ E * (l * 2) → E * T * d ≤ n * P → κ * T * d ≤ 2 * (n * l)
above_units n l P E κ T d Q e h =
    le_of_mul-le-mul_right (le_trans (le_of_eq (right_is κ P E l T d e)) (le_trans (mul-le-mul_right (l * 2) h) (le_of_eq (sym (left_is n l P))))) Q

-- ---- the threshold is half way between the largest number and the next power of two
split : (x κ : ℕ) → 0 < x → κ * (x * 2 - 1) ≡ x * κ + (x - 1) * κ
split x κ X = mul_comm κ (x * 2 - 1) ∙ ap (λ (y : ℕ). y * κ) (omega arith) ∙ add-mul x (x - 1) κ

less_one : (x : ℕ) → 0 < x → x - 1 < x
less_one x X = omega arith

full_odd : (c x h : ℕ) → x ≡ h * 2 → c < x → x - 1 ≤ c → c % 2 ≡ 0 → ⊥
full_odd c x h e a b z = omega arith

module _ (p n den K : ℕ) (P : 1 < p) (D : 0 < den) where
  abbrev R : ℕ
  R = kept p n den * 2 ^ drop p n den

  P0 : 0 < p
  P0 = omega arith

  -- a significand whose number is below 2 ^ (p + K) has an exponent of at most K
  pub place_le : (c j : ℕ) → (j ≡ 0) ⊎ (2 ^ (p - 1) ≤ c) → c * 2 ^ j < 2 ^ p * 2 ^ K → j ≤ K
  place_le c j full h = elim (le_or_lt j K) [
    | inl l ↦ l
    | inr l ↦ elim full [
      | inl z ↦ absurd (omega arith)
      | inr g ↦
          (let e : 2 ^ p * 2 ^ K ≡ 2 ^ (p - 1) * 2 ^ suc K = ap (λ (x : ℕ). x * 2 ^ K) (half p P) ∙ mul_assoc (2 ^ (p - 1)) 2 (2 ^ K) ∙ ap (λ (x : ℕ). 2 ^ (p - 1) * x) (mul_comm 2 (2 ^ K) ∙ sym (pow-suc 2 K)) in
          let w : 2 ^ (p - 1) * 2 ^ suc K ≤ c * 2 ^ j = le_trans (mul-le-mul_left (2 ^ (p - 1)) (pow_mono {i = suc K} {j = j} l)) (mul-le-mul_right (2 ^ j) g) in
          absurd (omega arith))
    ]
  ]

  mids : (2 ^ K * (2 ^ suc p - 1)) * den ≡ (2 ^ p * 2 ^ K) * den + ((2 ^ p - 1) * 2 ^ K) * den
  mids =
      ap (λ (x : ℕ). 2 ^ K * (x - 1) * den) (pow-suc 2 p)
      ∙ ap (λ (x : ℕ). x * den) (split (2 ^ p) (2 ^ K) (pow_pos p))
      ∙ add-mul (2 ^ p * 2 ^ K) ((2 ^ p - 1) * 2 ^ K) den

  pub in_range : 2 * n < 2 ^ K * (2 ^ suc p - 1) * den → R < 2 ^ p * 2 ^ K
  in_range h = elim (le_or_lt (2 ^ p * 2 ^ K) R) [
    | inr l ↦ l
    | inl l ↦
        (let y : (2 ^ p - 1) * 2 ^ K < R = lt_of_lt_of_le (mul-lt-mul_of_pos_right (less_one (2 ^ p) (pow_pos p)) (pow_pos K)) l in
        let w = nearest_down p n den P0 D (2 ^ p - 1) K (less_one (2 ^ p) (pow_pos p)) y in
        let a : (R + (2 ^ p - 1) * 2 ^ K) * den ≡ R * den + (2 ^ p - 1) * 2 ^ K * den = add-mul R ((2 ^ p - 1) * 2 ^ K) den in
        let b : 2 ^ p * 2 ^ K * den ≤ R * den = mul-le-mul_right den l in
        let m = mids in
        absurd (omega arith))
  ]

  one_is : 1 * 2 ^ (p + K) ≡ 2 ^ p * 2 ^ K
  one_is = one-mul (2 ^ (p + K)) ∙ pow-add 2 p K

  one_lt : 1 < 2 ^ p
  one_lt = let z = pow_pos (p - 1) in let h = half p P in omega arith

  module _ (h : 2 ^ K * (2 ^ suc p - 1) * den ≤ 2 * n) (l : R < 2 ^ p * 2 ^ K) where
    l' : R < 1 * 2 ^ (p + K)
    l' = rw one_is l

    up : 2 * n ≤ R * den + 2 ^ p * 2 ^ K * den
    up = le_trans (nearest_up p n den P0 D 1 (p + K) one_lt l') (le_of_eq (ap (λ (x : ℕ). (R + x) * den) one_is ∙ add-mul R (2 ^ p * 2 ^ K) den))

    top_le : (2 ^ p - 1) * 2 ^ K ≤ R
    top_le = le_of_mul-le-mul_right (let a = up in let m = mids in omega arith) D

    top_at : (w : Kept p n den P D) → w.j ≡ K → ⊥
    top_at w e =
        let a : (2 ^ p - 1) * 2 ^ K ≤ w.c * 2 ^ K = le_trans top_le (le_trans (le_of_eq (sym w.is)) (le_of_eq (ap (λ (x : ℕ). w.c * 2 ^ x) e))) in
        let b : 2 ^ p - 1 ≤ w.c = le_of_mul-le-mul_right a (pow_pos K) in
        let r : R * den ≡ (2 ^ p - 1) * 2 ^ K * den =
        ap (λ (x : ℕ). x * den) (sym w.is ∙ ap (λ (x : ℕ). w.c * 2 ^ x) e ∙ ap (λ (x : ℕ). x * 2 ^ K) (only w.c (2 ^ p) w.digits b)) in
        let mid : 2 * n ≡ R * den + 2 ^ p * 2 ^ K * den = let x = up in let m = mids in le_antisymm up (omega arith) in
        full_odd w.c (2 ^ p) (2 ^ (p - 1)) (half p P) w.digits b
        (w.even (even_up p n den P D 1 (p + K) one_lt l' (mid ∙ ap (λ (x : ℕ). R * den + x * den) (sym one_is))))
      where
        only : (c x : ℕ) → c < x → x - 1 ≤ c → c ≡ x - 1
        only c x a b = omega arith

    top_under : (w : Kept p n den P D) → w.j < K → ⊥
    top_under w g =
        let a : w.c * 2 ^ w.j ≤ (2 ^ p - 1) * 2 ^ w.j = mul-le-mul_right (2 ^ w.j) (fewer w.c (2 ^ p) w.digits) in
        let b : 2 ^ w.j * (2 ^ p - 1) < 2 ^ K * (2 ^ p - 1) = mul-lt-mul_of_pos_right (pow-lt {i = w.j} {j = K} g) (let z = one_lt in omega arith) in
        let t = top_le in
        let i = w.is in
        omega (arith, mul_comm (2 ^ w.j) (2 ^ p - 1), mul_comm (2 ^ K) (2 ^ p - 1))
      where
        fewer : (c x : ℕ) → c < x → c ≤ x - 1
        fewer c x a = omega arith

    no_top : ⊥
    no_top =
        let w = significant p n den P D in
        elim (eq-or-lt_of_le (place_le w.c w.j w.full (subst (λ (x : ℕ). x < 2 ^ p * 2 ^ K) (sym w.is) l))) [
          | inl e ↦ top_at w e
          | inr g ↦ top_under w g
        ]

  pub out_of_range : 2 ^ K * (2 ^ suc p - 1) * den ≤ 2 * n → 2 ^ p * 2 ^ K ≤ R
  out_of_range h = elim (le_or_lt (2 ^ p * 2 ^ K) R) [ inl l ↦ l | inr l ↦ absurd (no_top h l) ]
