-- The patterns of floats whose sign bit is clear go up with their values. Assumes nothing.
use mathlib.Core.Path.{◌≡◌, refl, sym, ap, ap₂, ◌∙◌, subst}
use mathlib.Core.Logic.{⊎_elim}
use mathlib.Core.Bool.{Bool, true, false, not, false≢true}
use Prim.Native.Nat.{ℕ, zero, suc, ◌+◌, ◌-◌, ◌*◌, ◌/◌, ◌%◌, ◌^◌, ◌≤◌, ◌<◌}
use native.Mathlib.Nat.{lt_of_lt_of_le, lt_of_le_of_lt, le_trans, le_of_eq, mul_assoc, mul_comm, pow-suc, mod-lt, mod-eq_of_lt, mul-le-mul_right, mul-le-mul_left, eq-or-lt_of_le}
use native.Mathlib.Omega.{arith}
use lib.Dec.{T, leb, eqb, eqb→eq, not_T, nleb→lt, lit<, lit≤}
use lib.Arith.{lt→nleb}
use lib.Pow.{pow_pos, pow_mono}
use lib.Ieee.{Float, nan, inf, fin, binary32, of_bits, of_fields, fits, lt, le}
use lib.Ieee.Bits.{is_true, is_false, of_bits-to_bits}
use lib.Ieee.Exact.{HasValue, odd_sign}
use lib.Ieee.Order.{le_of_values}
use lib.Ieee.Scale.{finite}
use Rattle.lists.proofs.Naturals.{le_or_lt}
use Rattle.packing.proofs.Fields.{of_bits_is, normal_is, value_low, value_normal, field_ne}
use Rattle.ieee.specs.F32.{f32, bits_of, abs_of}
use Rattle.ieee_laws.proofs.Order.{lt_not_le}
use Rattle.ieee_laws.proofs.Monotone.{nil}
use Rattle.ieee_laws.proofs.Bounds.{zero_is}
use Rattle.sheet.specs.Layout.{largest_finite, least_positive}

-- ---- the value of a normal pattern

abbrev pub power : ℕ → ℕ
power b = b / 2 ^ 23 - 1

abbrev pub digits : ℕ → ℕ
digits b = 2 ^ 23 + b % 2 ^ 23

module _ (b : ℕ) (lo : 2 ^ 23 ≤ b) (hi : b < 2139095040) where
  field : b % 2 ^ 31 / 2 ^ 23 ≡ suc (power b)
  field = ap (λ (z : ℕ). z / 2 ^ 23) (mod-eq_of_lt (lt_of_lt_of_le hi (lit≤ tt))) ∙ omega arith

  top_field : suc (power b) ≡ 255 → ⊥
  top_field z = omega arith

  pub value : HasValue (of_bits binary32 b) false (digits b * 2 ^ power b) (2 ^ 149)
  value =
      subst (λ (v : Float). HasValue v false (digits b * 2 ^ power b) (2 ^ 149))
      (sym (of_bits_is binary32 b ∙ ap₂ (λ (s : Bool) (z : ℕ). of_fields binary32 s z (b % 2 ^ 23)) (is_false (leb (2 ^ 31) b) (lt→nleb (2 ^ 31) b (lt_of_lt_of_le hi (lit≤ tt)))) field ∙ normal_is binary32 false (power b) (b % 2 ^ 23) (is_false (eqb (suc (power b)) 255) (not_T (eqb (suc (power b)) 255) (λ t. top_field (eqb→eq (suc (power b)) 255 t))))))
      (odd_sign 24 false (digits b) (power b) 149)

-- ---- a larger pattern has a larger value

module _ (c b : ℕ) (lo : 2 ^ 23 ≤ c) (up : c ≤ b) where
  same_power : power c ≡ power b → digits c * 2 ^ power c ≤ digits b * 2 ^ power b
  same_power e = subst (λ (k : ℕ). digits c * 2 ^ power c ≤ digits b * 2 ^ k) e (mul-le-mul_right (2 ^ power c) (omega arith))

  within : digits c ≤ 2 ^ 24
  within = omega (arith, mod-lt c (pow_pos 23))

  twice : digits c * 2 ^ power c ≤ 2 ^ 23 * 2 ^ suc (power c)
  twice = le_trans (mul-le-mul_right (2 ^ power c) within) (le_of_eq (ap (λ (n : ℕ). n * 2 ^ power c) doubled ∙ mul_assoc (2 ^ 23) 2 (2 ^ power c) ∙ ap (λ (n : ℕ). 2 ^ 23 * n) (mul_comm 2 (2 ^ power c) ∙ sym (pow-suc 2 (power c)))))
    where
      doubled : 2 ^ 24 ≡ 2 ^ 23 * 2
      doubled = refl

  next_power : power c < power b → digits c * 2 ^ power c ≤ digits b * 2 ^ power b
  next_power l = le_trans twice (le_trans (mul-le-mul_left (2 ^ 23) (pow_mono l)) (mul-le-mul_right (2 ^ power b) (omega arith)))

  pub rising : digits c * 2 ^ power c ≤ digits b * 2 ^ power b
  rising = ⊎_elim same_power next_power (eq-or-lt_of_le (omega arith))

-- ---- a float whose sign bit is clear

-- a value's sign is the one that its pattern tells
sign_of : (x : Float) {s : Bool} (a c : ℕ) → abs_of x ≡ x → HasValue x s a c → s ≡ false
unfolding abs_of
sign_of nan a c p v = absurd v
sign_of (inf t) a c p v = absurd v
sign_of (fin false m e) a c p v = sym v.0
sign_of (fin true m e) a c p v = absurd (false≢true (ap marked p))
  where
    marked : Float → Bool
    marked nan = false
    marked (inf s) = s
    marked (fin s n d) = s

no_self : lt nil nil ≡ true → ⊥
unfolding lt
no_self h = false≢true h

module _ (x : Float) (held : T (fits binary32 x)) (ends : finite x ≡ true) (plain : abs_of x ≡ x) where
  by_field : (n : ℕ) → bits_of x % 2 ^ 31 / 2 ^ 23 ≡ n → leb (2 ^ 31) (bits_of x) ≡ false
  by_field zero e = sign_of x (bits_of x % 2 ^ 23 * 2 ^ 0) (2 ^ 149) plain (value_low binary32 x held ends e)
  by_field (suc n) e = sign_of x ((2 ^ 23 + bits_of x % 2 ^ 23) * 2 ^ n) (2 ^ 149) plain (value_normal binary32 x held ends n e)

  sign_clear : bits_of x < 2 ^ 31
  sign_clear = nleb→lt (2 ^ 31) (bits_of x) (subst (λ (t : Bool). T (not t)) (sym (by_field (bits_of x % 2 ^ 31 / 2 ^ 23) refl)) tt)

  own : bits_of x % 2 ^ 31 ≡ bits_of x
  own = mod-eq_of_lt sign_clear

  highest : bits_of x / 2 ^ 23 ≡ 255 → ⊥
  highest e = field_ne binary32 x held ends 254 (ap (λ (n : ℕ). n / 2 ^ 23) own ∙ e) refl

  small : (n : ℕ) → n < 2 ^ 31 → (n / 2 ^ 23 ≡ 255 → ⊥) → n ≤ largest_finite
  small n l h = omega (arith, h)

  pub finite_bits : bits_of x ≤ largest_finite
  finite_bits = small (bits_of x) sign_clear highest

  no_less : (c : ℕ) → 2 ^ 23 ≤ c → c ≤ bits_of x → le (f32 c) x ≡ true
  no_less c lo u =
      is_true (le (f32 c) x)
      (subst (λ (v : Float). T (le (f32 c) v)) (of_bits-to_bits binary32 x held)
      (le_of_values (f32 c) (f32 (bits_of x)) (digits c * 2 ^ power c) (2 ^ 149) (digits (bits_of x) * 2 ^ power (bits_of x)) (2 ^ 149) (pow_pos 149) (pow_pos 149)
      (value c lo (lt_of_le_of_lt u (lt_of_le_of_lt finite_bits (lit< tt)))) (value (bits_of x) (le_trans lo u) (lt_of_le_of_lt finite_bits (lit< tt)))
      (mul-le-mul_right (2 ^ 149) (rising c (bits_of x) lo u))))

  -- a smaller value has a smaller pattern
  pub bits_below : (c : ℕ) → 2 ^ 23 ≤ c → lt x (f32 c) ≡ true → bits_of x < c
  bits_below c lo l = ⊎_elim (λ u. absurd (lt_not_le x (f32 c) l (no_less c lo u))) (λ d. d) (le_or_lt c (bits_of x))

  none_below : (n : ℕ) → (n ≡ 0 → ⊥) → least_positive ≤ n
  none_below n h = omega (arith, h)

  -- and one above 0 is not the pattern 0
  pub bits_above : lt nil x ≡ true → least_positive ≤ bits_of x
  bits_above l = none_below (bits_of x) (λ e. no_self (subst (λ (v : Float). lt nil v ≡ true) (sym (of_bits-to_bits binary32 x held) ∙ ap f32 e ∙ zero_is binary32) l))
