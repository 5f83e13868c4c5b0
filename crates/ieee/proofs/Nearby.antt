-- `round` gives the nearest: of the fraction and any other value of the format, the fraction is on the result's side of the midpoint. Assumes nothing.
use mathlib.Core.Path.{◌≡◌, sym, ap, ◌∙◌, subst}
use mathlib.Core.Logic.{◌⊎◌, inl, inr}
use Prim.Native.Nat.{ℕ, suc, ◌+◌, ◌-◌, ◌*◌, ◌/◌, ◌%◌, ◌^◌, ◌≤◌, ◌<◌, compare, Ordering}
use native.Mathlib.Nat.{le_trans, le_of_eq, le_of_lt, lt_of_lt_of_le, lt_irrefl, mul_comm, mul_assoc, add-mul, suc-mul, zero-mul, one-mul, mul-pos, mul-le-mul_right, lt_of_mul-lt-mul_right, div-add-mod', mod-lt, div-mul-le_self, div-div-eq-div-mul, le-div_iff_mul-le, eq-zero-or-pos}
use native.Mathlib.Omega.{arith}
use lib.Pow.{pow-add, pow_pos, pow_mono, shl_lt}
use lib.Ieee.Digits.{size_reaches, back}
use lib.Ieee.Nearest.{closest, nearest-ge}
use lib.Ieee.Order.{drop, kept}
use Rattle.lists.proofs.Naturals.{le_or_lt}
use Rattle.packing.proofs.Half.{cmp_lt, cmp_eq, cmp_gt, closest_is}

-- ---- within a half
abbrev Near : ℕ → ℕ → ℕ → Type 0
Near a b c = (2 * a ≤ 2 * (c * b) + b) × (2 * (c * b) ≤ 2 * a + b)

tie : (a b q r t : ℕ) → a ≡ q * b + r → r * 2 ≡ b → (t ≡ 0) ⊎ (t ≡ 1) → Near a b (q + t)
tie a b q r t e h (inl z) =
    let y : (q + t) * b ≡ q * b + 0 = add-mul q t b ∙ ap (λ (x : ℕ). q * b + x) (ap (λ (x : ℕ). x * b) z ∙ zero-mul b) in
    (omega arith, omega arith)
tie a b q r t e h (inr z) =
    let y : (q + t) * b ≡ q * b + b = add-mul q t b ∙ ap (λ (x : ℕ). q * b + x) (ap (λ (x : ℕ). x * b) z ∙ one-mul b) in
    (omega arith, omega arith)

pub even_or_odd : (h : ℕ) → (h % 2 ≡ 0) ⊎ (h % 2 ≡ 1)
even_or_odd h = elim (le_or_lt (h % 2) 0) [ inl z ↦ inl (omega arith) | inr z ↦ inr (omega arith) ]

near_at : (a b q r : ℕ) → a ≡ q * b + r → r < b → Near a b (closest a b)
near_at a b q r e l = elim (le_or_lt (r * 2) b) [
  | inr h ↦ subst (Near a b) (sym (closest_is a b q r Ordering.gt e l (cmp_gt (r * 2) b h))) (let s : suc q * b ≡ q * b + b = suc-mul q b in (omega arith, omega arith))
  | inl h ↦ elim (le_or_lt b (r * 2)) [
    | inr g ↦ subst (Near a b) (sym (closest_is a b q r Ordering.lt e l (cmp_lt (r * 2) b g))) (omega arith, omega arith)
    | inl g ↦ subst (Near a b) (sym (closest_is a b q r Ordering.eq e l (cmp_eq (r * 2) b (omega arith)))) (tie a b q r (q % 2) e (omega arith) (even_or_odd q))
  ]
]

near : (a b : ℕ) → 0 < b → Near a b (closest a b)
near a b B = near_at a b (a / b) (a % b) (sym (div-add-mod' a b)) (mod-lt a B)

-- ---- n / den to p digits: q * 2 ^ k, with k digits of the whole part dropped
module _ (p n den : ℕ) (P : 0 < p) (D : 0 < den) where
  abbrev k : ℕ
  k = drop p n den

  abbrev q : ℕ
  q = kept p n den

  abbrev R : ℕ
  R = kept p n den * 2 ^ drop p n den

  u_is : (x : ℕ) → x * (den * 2 ^ k) ≡ x * 2 ^ k * den
  u_is x = ap (λ (y : ℕ). x * y) (mul_comm den (2 ^ k)) ∙ sym (mul_assoc x (2 ^ k) den)

  pub bounds : (2 * n ≤ 2 * (R * den) + 2 ^ k * den) × (2 * (R * den) ≤ 2 * n + 2 ^ k * den)
  bounds =
      let w = near n (den * 2 ^ k) (mul-pos D (pow_pos k)) in
      let e : den * 2 ^ k ≡ 2 ^ k * den = mul_comm den (2 ^ k) in
      let f : q * (den * 2 ^ k) ≡ R * den = u_is q in
      (omega (arith, w.0), omega (arith, w.1))

  -- where digits are dropped, the whole part fills p digits and the dropped ones
  whole_ge : 0 < k → 2 ^ (p - 1 + k) ≤ n / den
  whole_ge h = size_reaches (n / den) (p - 1 + k) (omega arith)

  pub q_ge : 0 < k → 2 ^ (p - 1) ≤ q
  q_ge h =
      le_trans
      (le_trans ((le-div_iff_mul-le (pow_pos k)).1 (le_trans (le_of_eq (sym (pow-add 2 (p - 1) k))) (whole_ge h))) (le_of_eq (div-div-eq-div-mul n den (2 ^ k))))
      (nearest-ge (n / (den * 2 ^ k)) (compare (n % (den * 2 ^ k) * 2) (den * 2 ^ k)))

  R_ge : 0 < k → 2 ^ (p - 1 + k) ≤ R
  R_ge h = le_trans (le_of_eq (pow-add 2 (p - 1) k)) (mul-le-mul_right (2 ^ k) (q_ge h))

  -- a value y * 2 ^ j of p digits from 2 ^ (p - 1 + k) on is a multiple of 2 ^ k
  coarse : (y j : ℕ) → y < 2 ^ p → 2 ^ (p - 1 + k) ≤ y * 2 ^ j → k ≤ j
  coarse y j h l = elim (le_or_lt k j) [
    | inl g ↦ g
    | inr g ↦ absurd (lt_irrefl (y * 2 ^ j) (lt_of_lt_of_le (shl_lt p j h) (le_trans (pow_mono {i = p + j} {j = p - 1 + k} (omega arith)) l)))
  ]

  multiple : (y j : ℕ) → k ≤ j → y * 2 ^ j ≡ y * 2 ^ (j - k) * 2 ^ k
  multiple y j h = sym (mul_assoc y (2 ^ (j - k)) (2 ^ k) ∙ ap (λ (x : ℕ). y * x) (sym (pow-add 2 (j - k) k) ∙ ap (λ (x : ℕ). 2 ^ x) (back j k h)))

  -- a value above the result is a whole step above it
  pub step_up : (y j : ℕ) → y < 2 ^ p → R < y * 2 ^ j → R + 2 ^ k ≤ y * 2 ^ j
  step_up y j h l = elim (eq-zero-or-pos k) [
    | inl z ↦ let e : 2 ^ k ≡ 1 = ap (λ (x : ℕ). 2 ^ x) z in omega arith
    | inr g ↦
        (let e : y * 2 ^ j ≡ y * 2 ^ (j - k) * 2 ^ k = multiple y j (coarse y j h (le_trans (R_ge g) (le_of_lt l))) in
        let t : q < y * 2 ^ (j - k) = lt_of_mul-lt-mul_right (2 ^ k) (subst (λ (x : ℕ). R < x) e l) in
        le_trans (le_of_eq (sym (suc-mul q (2 ^ k)))) (le_trans (mul-le-mul_right (2 ^ k) t) (le_of_eq (sym e))))
  ]

  pub nearest_up : (y j : ℕ) → y < 2 ^ p → R < y * 2 ^ j → 2 * n ≤ (R + y * 2 ^ j) * den
  nearest_up y j h l =
      let s : (R + 2 ^ k) * den ≤ y * 2 ^ j * den = mul-le-mul_right den (step_up y j h l) in
      let e : (R + 2 ^ k) * den ≡ R * den + 2 ^ k * den = add-mul R (2 ^ k) den in
      let f : (R + y * 2 ^ j) * den ≡ R * den + y * 2 ^ j * den = add-mul R (y * 2 ^ j) den in
      omega (arith, bounds.0)

  -- a value below the result is a whole step below it, or the result is a power of two that the fraction does not fall short of
  pub step_down : (y j : ℕ) → y < 2 ^ p → y * 2 ^ j < R → (y * 2 ^ j + 2 ^ k ≤ R) ⊎ (R * den ≤ n)
  step_down y j h l = elim (eq-zero-or-pos k) [
    | inl z ↦ let e : 2 ^ k ≡ 1 = ap (λ (x : ℕ). 2 ^ x) z in inl (omega arith)
    | inr g ↦ elim (le_or_lt (y * 2 ^ j + 2 ^ k) R) [
      | inl a ↦ inl a
      | inr a ↦ elim (le_or_lt q (2 ^ (p - 1))) [
        | inl b ↦ inr (le_trans (mul-le-mul_right den (le_trans (mul-le-mul_right (2 ^ k) b) (le_trans (le_of_eq (sym (pow-add 2 (p - 1) k))) (whole_ge g)))) (div-mul-le_self n den))
        | inr b ↦ absurd (between y j h l g a b)
      ]
    ]
  ]
    where
      between : (y j : ℕ) → y < 2 ^ p → y * 2 ^ j < R → 0 < k → R < y * 2 ^ j + 2 ^ k → 2 ^ (p - 1) < q → ⊥
      between y j h l g a b =
          let c : suc (2 ^ (p - 1)) * 2 ^ k ≤ q * 2 ^ k = mul-le-mul_right (2 ^ k) b in
          let d : suc (2 ^ (p - 1)) * 2 ^ k ≡ 2 ^ (p - 1) * 2 ^ k + 2 ^ k = suc-mul (2 ^ (p - 1)) (2 ^ k) in
          let f : 2 ^ (p - 1 + k) ≡ 2 ^ (p - 1) * 2 ^ k = pow-add 2 (p - 1) k in
          let e : y * 2 ^ j ≡ y * 2 ^ (j - k) * 2 ^ k = multiple y j (coarse y j h (omega arith)) in
          let t : y * 2 ^ (j - k) < q = lt_of_mul-lt-mul_right (2 ^ k) (subst (λ (x : ℕ). x < R) e l) in
          let s : suc (y * 2 ^ (j - k)) * 2 ^ k ≤ q * 2 ^ k = mul-le-mul_right (2 ^ k) t in
          let r : suc (y * 2 ^ (j - k)) * 2 ^ k ≡ y * 2 ^ (j - k) * 2 ^ k + 2 ^ k = suc-mul (y * 2 ^ (j - k)) (2 ^ k) in
          omega arith

  pub nearest_down : (y j : ℕ) → y < 2 ^ p → y * 2 ^ j < R → (R + y * 2 ^ j) * den ≤ 2 * n
  nearest_down y j h l =
      let f : (R + y * 2 ^ j) * den ≡ R * den + y * 2 ^ j * den = add-mul R (y * 2 ^ j) den in
      elim (step_down y j h l) [
        | inl a ↦
            (let s : (y * 2 ^ j + 2 ^ k) * den ≤ R * den = mul-le-mul_right den a in
            let e : (y * 2 ^ j + 2 ^ k) * den ≡ y * 2 ^ j * den + 2 ^ k * den = add-mul (y * 2 ^ j) (2 ^ k) den in
            omega (arith, bounds.1))
        | inr a ↦
            (let s : y * 2 ^ j * den ≤ R * den = mul-le-mul_right den (le_of_lt l) in
            omega arith)
      ]

  -- the result is at most twice the fraction
  pub at_most_twice : R * den ≤ 2 * n
  at_most_twice = elim (eq-zero-or-pos q) [
    | inl z ↦ let e : R * den ≡ 0 = ap (λ (x : ℕ). x * 2 ^ k * den) z ∙ ap (λ (x : ℕ). x * den) (zero-mul (2 ^ k)) ∙ zero-mul den in omega arith
    | inr g ↦
        (let s : 1 * (2 ^ k * den) ≤ q * (2 ^ k * den) = mul-le-mul_right (2 ^ k * den) g in
        let e : q * (2 ^ k * den) ≡ R * den = sym (mul_assoc q (2 ^ k) den) in
        let f : 1 * (2 ^ k * den) ≡ 2 ^ k * den = one-mul (2 ^ k * den) in
        omega (arith, bounds.1))
  ]
