-- What `unsigned_bits` returns, by the case of its code: m has its highest digit at place j, and z zeros above it. Assumes nothing.
use mathlib.Core.Path.{◌≡◌, refl, sym, ap, ◌∙◌, subst}
use mathlib.Core.Logic.{inl, inr}
use Prim.Native.Nat.{ℕ, suc, ◌+◌, ◌-◌, ◌*◌, ◌/◌, ◌^◌, ◌≤◌, ◌<◌}
use native.Mathlib.Nat.{le_refl, le_trans, le_of_eq, le_of_lt, lt_of_lt_of_le, zero-mul, zero-add, add_comm, mul-le-mul_right, mul-le-mul, mul-lt-mul_of_pos_right}
use native.Mathlib.Omega.{arith}
use mathlib.Core.Bool.{Bool, true, false, cond}
use lib.IntN.{pos}
use lib.Arith.{le-zero}
use lib.Pow.{pow-add, pow_pos, pow_mono, shl_lt}
use lib.Ieee.{fin, binary32, size, units, round, of_bits, top}
use lib.Ieee.Nearest.{closest, closest_mono}
use Rattle.packing.proofs.Size.{size_frac}
use Rattle.packing.proofs.Scaled.{round_shift}
use Rattle.packing.proofs.Units.{units_bits, units_inf, inf_bits, zero_bits}

-- how many digits m * 2 ^ x / 2 ^ b has before the point, in units of 2 ^ -l
pub size_scaled : (m x l b j : ℕ) → 2 ^ j ≤ m → m < 2 ^ suc j → size (m * 2 ^ x * 2 ^ l / 2 ^ b) ≡ suc (j + x + l) - b
size_scaled m x l b j lo hi = size_frac (m * 2 ^ x * 2 ^ l) (2 ^ b) (j + x + l) b (pow_pos b)
    (mul-le-mul_right (2 ^ b) (le_trans (le_of_eq (pow-add 2 (j + x) l ∙ ap (λ (y : ℕ). y * 2 ^ l) (pow-add 2 j x))) (mul-le-mul_right (2 ^ l) (mul-le-mul_right (2 ^ x) lo))))
    (mul-lt-mul_of_pos_right (lt_of_lt_of_le (mul-lt-mul_of_pos_right (mul-lt-mul_of_pos_right hi (pow_pos x)) (pow_pos l)) (le_of_eq (sym (pow-add 2 (suc j + x) l ∙ ap (λ (y : ℕ). y * 2 ^ l) (pow-add 2 (suc j) x)) ∙ ap (λ (y : ℕ). 2 ^ y) (omega arith)))) (pow_pos b))

-- the code's n: m moved up until its highest digit is at place 63
pub normal_lt : (m z j : ℕ) → m < 2 ^ suc j → z + suc j ≡ 64 → m * 2 ^ z < 2 ^ 64
normal_lt m z j hi e = subst (λ (y : ℕ). m * 2 ^ z < 2 ^ y) (add_comm (suc j) z ∙ e) (shl_lt (suc j) z hi)

pub normal_ge : (m z j : ℕ) → 2 ^ j ≤ m → z + suc j ≡ 64 → 2 ^ 63 ≤ m * 2 ^ z
normal_ge m z j lo e =
    let w : j + z ≡ 63 = omega arith in
    subst (λ (y : ℕ). 2 ^ y ≤ m * 2 ^ z) w (le_trans (le_of_eq (pow-add 2 j z)) (mul-le-mul_right (2 ^ z) lo))

-- ---- the number kept
pub kept_ge : (n : ℕ) → 2 ^ 63 ≤ n → 2 ^ 23 ≤ closest n (2 ^ 40)
kept_ge n h = closest_mono (2 ^ 63) (2 ^ 40) n (2 ^ 40) (pow_pos 40) (pow_pos 40) (mul-le-mul_right (2 ^ 40) h)

pub kept_le : (n : ℕ) → n < 2 ^ 64 → closest n (2 ^ 40) ≤ 2 ^ 24
kept_le n h = closest_mono n (2 ^ 40) (2 ^ 64) (2 ^ 40) (pow_pos 40) (pow_pos 40) (mul-le-mul_right (2 ^ 40) (le_of_lt h))

pub low_le : (n sh : ℕ) → n < 2 ^ 64 → 40 ≤ sh → closest n (2 ^ sh) ≤ 2 ^ 24
low_le n sh h l = closest_mono n (2 ^ sh) (2 ^ 64) (2 ^ 40) (pow_pos sh) (pow_pos 40) (mul-le-mul (le_of_lt h) (pow_mono l))

none : (n sh : ℕ) → n < 2 ^ 64 → 65 ≤ sh → closest n (2 ^ sh) ≡ 0
none n sh h l = le-zero (closest_mono n (2 ^ sh) (2 ^ 64 - 1) (2 ^ 65) (pow_pos sh) (pow_pos 65) (mul-le-mul le (pow_mono l)))
  where
    le : n ≤ 2 ^ 64 - 1
    le = omega arith

-- ---- the cases
module _ (m x z j : ℕ) (lo : 2 ^ j ≤ m) (hi : m < 2 ^ suc j) (e : z + suc j ≡ 64) (s : Bool) where
  pub at_normal : (k : ℕ) → 949 + k ≡ x + suc j → round binary32 s (m * 2 ^ x) (2 ^ 1074) ≡ units binary32 s (closest (m * 2 ^ z) (2 ^ 40)) k
  at_normal k h = round_shift binary32 s m x 1074 k z 40 (ap (λ (y : ℕ). y - 24) (size_scaled m x 149 1074 j lo hi) ∙ omega arith) (omega arith)

  at_low : (d : ℕ) → x + suc j + d ≡ 949 → round binary32 s (m * 2 ^ x) (2 ^ 1074) ≡ units binary32 s (closest (m * 2 ^ z) (2 ^ (40 + d))) 0
  at_low d h = round_shift binary32 s m x 1074 0 z (40 + d) (ap (λ (y : ℕ). y - 24) (size_scaled m x 149 1074 j lo hi) ∙ omega arith) (omega arith)

  pub normal_case : (k : ℕ) → 949 + k ≡ x + suc j → k < 254 → of_bits binary32 (cond s (top binary32) 0 + (k * 2 ^ 23 + closest (m * 2 ^ z) (2 ^ 40))) ≡ round binary32 s (m * 2 ^ x) (2 ^ 1074)
  normal_case k h g =
      units_bits s (closest (m * 2 ^ z) (2 ^ 40)) k (kept_le (m * 2 ^ z) (normal_lt m z j hi e)) (inr (kept_ge (m * 2 ^ z) (normal_ge m z j lo e))) g
      ∙ sym (at_normal k h)

  pub large_case : (k : ℕ) → 949 + k ≡ x + suc j → 254 ≤ k → of_bits binary32 (cond s (top binary32) 0 + 2139095040) ≡ round binary32 s (m * 2 ^ x) (2 ^ 1074)
  large_case k h g =
      inf_bits s
      ∙ sym (units_inf s (closest (m * 2 ^ z) (2 ^ 40)) k (le_trans (mul-le-mul {n₁ = 2 ^ 23} {m₁ = 2 ^ 254} (kept_ge (m * 2 ^ z) (normal_ge m z j lo e)) (pow_mono g)) (le_refl (closest (m * 2 ^ z) (2 ^ 40) * 2 ^ k))))
      ∙ sym (at_normal k h)

  pub low_case : (d : ℕ) → x + suc j + d ≡ 949 → of_bits binary32 (cond s (top binary32) 0 + closest (m * 2 ^ z) (2 ^ (40 + d))) ≡ round binary32 s (m * 2 ^ x) (2 ^ 1074)
  low_case d h =
      ap (λ (y : ℕ). of_bits binary32 (cond s (top binary32) 0 + y)) (sym (zero-add (closest (m * 2 ^ z) (2 ^ (40 + d)))))
      ∙ units_bits s (closest (m * 2 ^ z) (2 ^ (40 + d))) 0 (low_le (m * 2 ^ z) (40 + d) (normal_lt m z j hi e) (omega arith)) (inl refl) (omega arith)
      ∙ sym (at_low d h)

  pub tiny_case : (d : ℕ) → x + suc j + d ≡ 949 → 24 < d → of_bits binary32 (cond s (top binary32) 0 + 0) ≡ round binary32 s (m * 2 ^ x) (2 ^ 1074)
  tiny_case d h g =
      ap (λ (y : ℕ). of_bits binary32 (cond s (top binary32) 0 + y)) (sym (none (m * 2 ^ z) (40 + d) (normal_lt m z j hi e) (omega arith))) ∙ low_case d h

pub at_zero : (s : Bool) → round binary32 s 0 (2 ^ 1074) ≡ fin s 0 (pos 0)
unfolding round
at_zero true = refl
at_zero false = refl

pub zero_case : (x : ℕ) (s : Bool) → of_bits binary32 (cond s (top binary32) 0 + 0) ≡ round binary32 s (0 * 2 ^ x) (2 ^ 1074)
zero_case x s = zero_bits s ∙ sym (ap (λ (y : ℕ). round binary32 s y (2 ^ 1074)) (zero-mul (2 ^ x)) ∙ at_zero s)
