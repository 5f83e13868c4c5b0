-- The root of a normal number by its pattern. Assumes nothing.
use mathlib.Core.Path.{◌≡◌, sym, ap, ap₂, ◌∙◌, subst}
use Prim.Native.Nat.{ℕ, suc, ◌+◌, ◌-◌, ◌*◌, ◌/◌, ◌%◌, ◌^◌, ◌≤◌, ◌<◌}
use native.Mathlib.Nat.{lt_of_lt_of_le, mod-lt, mod-eq_of_lt, mul-pos}
use native.Mathlib.Omega.{arith}
use mathlib.Core.Bool.{Bool, false}
use lib.Dec.{T, leb, eqb, eqb→eq, not_T, lit<, lit≤}
use lib.Arith.{lt→nleb}
use lib.Pow.{pow_pos}
use lib.Ieee.{Float, binary32, of_bits, of_fields}
use lib.Ieee.Bits.{is_false}
use lib.Ieee.Exact.{HasValue, odd_sign}
use lib.Ieee.Positive.{positive, positive_of_value}
use Rattle.ieee.specs.Root.{sqrt}
use Rattle.packing.proofs.Fields.{of_bits_is, normal_is}
use Rattle.ieee_root.proofs.Roots.{sqrt_is}
use Rattle.ieee_root.proofs.Fast.{code_lt, near_fits, root_near}

module _ (b : ℕ) (lo : 2 ^ 23 ≤ b) (hi : b < 2139095040) where
  abbrev e : ℕ
  e = b / 2 ^ 23 - 1

  abbrev m : ℕ
  m = 2 ^ 23 + b % 2 ^ 23

  least : 2 ^ 23 ≤ m
  least = omega arith

  most : m < 2 ^ 24
  most = omega (arith, mod-lt b (pow_pos 23))

  place : e ≤ 253
  place = omega arith

  field : b % 2 ^ 31 / 2 ^ 23 ≡ suc e
  field = ap (λ (z : ℕ). z / 2 ^ 23) (mod-eq_of_lt (lt_of_lt_of_le hi (lit≤ tt))) ∙ omega arith

  top_field : suc e ≡ 255 → ⊥
  top_field z = omega arith

  value : HasValue (of_bits binary32 b) false (m * 2 ^ e) (2 ^ 149)
  value =
      subst (λ (v : Float). HasValue v false (m * 2 ^ e) (2 ^ 149))
      (sym (of_bits_is binary32 b ∙ ap₂ (λ (s : Bool) (z : ℕ). of_fields binary32 s z (b % 2 ^ 23)) (is_false (leb (2 ^ 31) b) (lt→nleb (2 ^ 31) b (lt_of_lt_of_le hi (lit≤ tt)))) field ∙ normal_is binary32 false e (b % 2 ^ 23) (is_false (eqb (suc e) 255) (not_T (eqb (suc e) 255) (λ t. top_field (eqb→eq (suc e) 255 t))))))
      (odd_sign 24 false m e 149)

  above_zero : T (positive (of_bits binary32 b))
  above_zero = positive_of_value (of_bits binary32 b) (m * 2 ^ e) (2 ^ 149) value (mul-pos (lt_of_lt_of_le (lit< tt) least) (pow_pos e))

  abbrev A : ℕ
  A = m * 2 ^ (23 + e % 2) % 2 ^ 64

  pub try_lt : A < 2 ^ 48
  try_lt = code_lt m e 0 least most place

  module _ (q : ℕ) (under : q * q < A + q) (over : A ≤ q * q + q) where
    pub try_small : (e + 126) / 2 * 2 ^ 23 + q ≤ 2139095040
    try_small = near_fits m e q least most place under over

    pub try_right : of_bits binary32 ((e + 126) / 2 * 2 ^ 23 + q) ≡ sqrt binary32 (of_bits binary32 b)
    try_right = root_near m e q least most place under over ∙ sym (sqrt_is (of_bits binary32 b) false (m * 2 ^ e) above_zero value)
