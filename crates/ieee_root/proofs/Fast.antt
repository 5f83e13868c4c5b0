-- A root to the nearest whole number is the digits of the rounded root. Assumes nothing.
use mathlib.Core.Path.{◌≡◌, refl, sym, ap, ap₂, ◌∙◌, subst}
use mathlib.Core.Logic.{inl, inr}
use Prim.Native.Nat.{Ordering}
use Prim.Native.Nat.{ℕ, suc, ◌+◌, ◌-◌, ◌*◌, ◌/◌, ◌%◌, ◌^◌, ◌≤◌, ◌<◌}
use native.Mathlib.Nat.{lt_of_lt_of_le, lt_of_le_of_lt, mul_assoc, mul-le-mul, mul-le-mul_left, zero-add, suc-mul, mul-suc, mod-eq_of_lt, mul-lt-mul_of_pos_right}
use native.Mathlib.Omega.{arith}
use mathlib.Core.Bool.{false}
use lib.Dec.{lit<}
use lib.Pow.{pow-add, pow_pos, pow_mono}
use lib.Ieee.{binary32, round, of_bits}
use lib.Ieee.Nearest.{closest}
use Rattle.lists.proofs.Naturals.{le_or_lt}
use Rattle.ieee.specs.Root.{halves}
use Rattle.packing.proofs.Half.{closest_is, cmp_lt, cmp_gt}
use Rattle.packing.proofs.Cases.{normal_case}
use Rattle.packing.proofs.Sums.{order}
use Rattle.ieee_root.proofs.Roots.{twice_square, square_le, exact_case, open_case}

-- quarters, with a quarter at most beside a whole number
quarter_low : (q b : ℕ) → b < 2 → closest ((4 * q + b) * 2 ^ 38) (2 ^ 40) ≡ q
quarter_low q b h = closest_is ((4 * q + b) * 2 ^ 38) (2 ^ 40) q (b * 2 ^ 38) Ordering.lt (omega arith) (omega arith) (cmp_lt (b * 2 ^ 38 * 2) (2 ^ 40) (omega arith))

quarter_high : (q : ℕ) → closest ((4 * q + 3) * 2 ^ 38) (2 ^ 40) ≡ suc q
quarter_high q = closest_is ((4 * q + 3) * 2 ^ 38) (2 ^ 40) q (3 * 2 ^ 38) Ordering.gt (omega arith) (omega arith) (cmp_gt (3 * 2 ^ 38 * 2) (2 ^ 40) (omega arith))

-- M quarters of a unit, rounded
packed : (M q w : ℕ) → 2 ^ 25 ≤ M → M < 2 ^ 26 → closest (M * 2 ^ 38) (2 ^ 40) ≡ q → w < 254 → of_bits binary32 (w * 2 ^ 23 + q) ≡ round binary32 false (M * 2 ^ (w + 923)) (2 ^ 1074)
packed M q w lo hi e h =
    ap (λ (x : ℕ). of_bits binary32 (w * 2 ^ 23 + x)) (sym e)
    ∙ ap (of_bits binary32) (sym (zero-add (w * 2 ^ 23 + closest (M * 2 ^ 38) (2 ^ 40))))
    ∙ normal_case M (w + 923) 38 25 lo hi refl false w (omega arith) h

square_suc : (x : ℕ) → suc x * suc x ≡ x * x + 2 * x + 1
square_suc x =
    let e : suc x * suc x ≡ x * suc x + suc x = suc-mul x (suc x) in
    let f : x * suc x ≡ x * x + x = mul-suc x x in
    omega arith

square_odd : (x : ℕ) → suc (2 * x) * suc (2 * x) ≡ 4 * (x * x) + 4 * x + 1
square_odd x = omega (arith, square_suc (2 * x), twice_square x)

-- q * q - q < a ≤ q * q + q: the root of a is nearest to q
module _ (a q p : ℕ) (e : q ≡ suc p) (lo : q * q < a + q) (hi : a ≤ q * q + q) where
  q_square : q * q ≡ p * p + 2 * p + 1
  q_square = ap (λ (x : ℕ). x * x) e ∙ square_suc p

  pred_square : suc (2 * p) * suc (2 * p) < 4 * a
  pred_square = omega (arith, square_odd p, q_square)

  next_square : 4 * a < suc (2 * q) * suc (2 * q)
  next_square = omega (arith, square_odd q)

  module _ (n w : ℕ) (same : 4 * a * (2 ^ suc w * 2 ^ suc w) ≡ 4 * n) (small : suc w < 254) (least : 2 ^ 46 ≤ a) (most : a < 2 ^ 48) where
    q_ge : 2 ^ 23 ≤ q
    q_ge = omega (arith, square_le (2 ^ 23) (suc q) (omega (arith, square_suc q)))

    q_le : q ≤ 2 ^ 24
    q_le = omega (arith, square_le p (2 ^ 24) (omega (arith, q_square)))

    below : a < q * q → of_bits binary32 (suc w * 2 ^ 23 + q) ≡ round binary32 false (halves n) (2 ^ 150)
    below h =
        let g : 2 ^ 23 < q = square_le (2 ^ 23) q (lt_of_le_of_lt least h) in
        let k : 4 * a < suc (suc (2 * p)) * suc (suc (2 * p)) = subst (λ (x : ℕ). 4 * a < x * x) two_q (omega (arith, twice_square q)) in
        packed (suc (2 * p) * 2 + 1) q (suc w) (omega arith) (omega (arith, q_le)) (ap (λ (x : ℕ). closest (x * 2 ^ 38) (2 ^ 40)) four ∙ quarter_high p ∙ sym e) small
        ∙ open_case n (4 * a) (suc (2 * p)) w same (omega arith) pred_square k
      where
        two_q : 2 * q ≡ suc (suc (2 * p))
        two_q = omega arith

        four : suc (2 * p) * 2 + 1 ≡ 4 * p + 3
        four = omega arith

    level : a ≡ q * q → of_bits binary32 (suc w * 2 ^ 23 + q) ≡ round binary32 false (halves n) (2 ^ 150)
    level h =
        let g : q < 2 ^ 24 = square_le q (2 ^ 24) (omega arith) in
        packed (2 * (2 * q)) q (suc w) (omega (arith, q_ge)) (omega arith) (ap (λ (x : ℕ). closest (x * 2 ^ 38) (2 ^ 40)) four ∙ quarter_low q 0 (lit< tt)) small
        ∙ exact_case n (4 * a) (2 * q) w same (omega (arith, q_ge)) (omega (arith, twice_square q))
      where
        four : 2 * (2 * q) ≡ 4 * q + 0
        four = omega arith

    beyond : q * q < a → of_bits binary32 (suc w * 2 ^ 23 + q) ≡ round binary32 false (halves n) (2 ^ 150)
    beyond h =
        let g : q < 2 ^ 24 = square_le q (2 ^ 24) (omega arith) in
        packed (2 * q * 2 + 1) q (suc w) (omega (arith, q_ge)) (omega arith) (ap (λ (x : ℕ). closest (x * 2 ^ 38) (2 ^ 40)) four ∙ quarter_low q 1 (lit< tt)) small
        ∙ open_case n (4 * a) (2 * q) w same (omega (arith, q_ge)) (omega (arith, twice_square q)) next_square
      where
        four : 2 * q * 2 + 1 ≡ 4 * q + 1
        four = omega arith

    near_root : of_bits binary32 (suc w * 2 ^ 23 + q) ≡ round binary32 false (halves n) (2 ^ 150)
    near_root = elim (order a (q * q)) [ inl h ↦ below h | inr (inl h) ↦ beyond h | inr (inr h) ↦ level h ]

-- m * 2 ^ e / 2 ^ 149 with a full m
module _ (m e q : ℕ) (least : 2 ^ 23 ≤ m) (most : m < 2 ^ 24) (top : e ≤ 253) where
  a_is : m * 2 ^ (23 + e % 2) % 2 ^ 64 ≡ m * 2 ^ (23 + e % 2)
  a_is = mod-eq_of_lt (lt_of_lt_of_le (mul-lt-mul_of_pos_right most (pow_pos (23 + e % 2))) (mul-le-mul_left (2 ^ 24) (pow_mono {i = 23 + e % 2} {j = 40} (omega arith))))

  a_lt : m * 2 ^ (23 + e % 2) < 2 ^ 48
  a_lt = lt_of_lt_of_le (mul-lt-mul_of_pos_right most (pow_pos (23 + e % 2))) (mul-le-mul_left (2 ^ 24) (pow_mono {i = 23 + e % 2} {j = 24} (omega arith)))

  a_ge : 2 ^ 46 ≤ m * 2 ^ (23 + e % 2)
  a_ge = mul-le-mul {n₁ = 2 ^ 23} {m₁ = 2 ^ 23} least (pow_mono {i = 23} {j = 23 + e % 2} (omega arith))

  pub code_lt : m * 2 ^ (23 + e % 2) % 2 ^ 64 < 2 ^ 48
  code_lt = subst (λ (x : ℕ). x < 2 ^ 48) (sym a_is) a_lt

  w_is : suc ((e + 126) / 2 - 1) ≡ (e + 126) / 2
  w_is = omega arith

  same : 4 * (m * 2 ^ (23 + e % 2)) * (2 ^ ((e + 126) / 2) * 2 ^ ((e + 126) / 2)) ≡ 4 * (m * 2 ^ e * 2 ^ 149)
  same =
      let w = (e + 126) / 2 in
      let k : 23 + e % 2 + (w + w) ≡ e + 149 = omega arith in
      mul_assoc 4 (m * 2 ^ (23 + e % 2)) (2 ^ w * 2 ^ w)
      ∙ ap (λ (x : ℕ). 4 * x) (ap (λ (x : ℕ). m * 2 ^ (23 + e % 2) * x) (sym (pow-add 2 w w)) ∙ mul_assoc m (2 ^ (23 + e % 2)) (2 ^ (w + w)) ∙ ap (λ (x : ℕ). m * x) (sym (pow-add 2 (23 + e % 2) (w + w)) ∙ ap (λ (x : ℕ). 2 ^ x) k ∙ pow-add 2 e 149) ∙ sym (mul_assoc m (2 ^ e) (2 ^ 149)))

  abbrev A : ℕ
  A = m * 2 ^ (23 + e % 2) % 2 ^ 64

  pub q_pos : A ≤ q * q + q → 0 < q
  q_pos h = elim (le_or_lt 1 q) [ inl g ↦ g | inr g ↦ absurd (zero_case (omega arith)) ]
    where
      zero_case : q ≡ 0 → ⊥
      zero_case z = let f : q * q + q ≡ 0 = ap (λ (x : ℕ). x * x + x) z in omega (arith, a_ge, a_is)

  pub near_fits : q * q < A + q → A ≤ q * q + q → (e + 126) / 2 * 2 ^ 23 + q ≤ 2139095040
  near_fits lo hi =
      let g : q ≤ 2 ^ 24 = q_le A q (q - 1) (omega (arith, q_pos hi)) lo hi (m * 2 ^ e * 2 ^ 149) ((e + 126) / 2 - 1) (code_same) (omega arith) (omega (arith, a_ge, a_is)) code_lt in
      omega arith
    where
      code_same : 4 * A * (2 ^ suc ((e + 126) / 2 - 1) * 2 ^ suc ((e + 126) / 2 - 1)) ≡ 4 * (m * 2 ^ e * 2 ^ 149)
      code_same = ap₂ (λ (x y : ℕ). 4 * x * (2 ^ y * 2 ^ y)) a_is w_is ∙ same

  pub root_near : q * q < A + q → A ≤ q * q + q → of_bits binary32 ((e + 126) / 2 * 2 ^ 23 + q) ≡ round binary32 false (halves (m * 2 ^ e * 2 ^ 149)) (2 ^ 150)
  root_near lo hi =
      ap (λ (x : ℕ). of_bits binary32 (x * 2 ^ 23 + q)) (sym w_is)
      ∙ near_root A q (q - 1) (omega (arith, q_pos hi)) lo hi (m * 2 ^ e * 2 ^ 149) ((e + 126) / 2 - 1) code_same (omega arith) (omega (arith, a_ge, a_is)) code_lt
    where
      code_same : 4 * A * (2 ^ suc ((e + 126) / 2 - 1) * 2 ^ suc ((e + 126) / 2 - 1)) ≡ 4 * (m * 2 ^ e * 2 ^ 149)
      code_same = ap₂ (λ (x y : ℕ). 4 * x * (2 ^ y * 2 ^ y)) a_is w_is ∙ same
