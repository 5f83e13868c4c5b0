-- The digits of a raised pattern, as a number and times 2 ^ 46; and the root by the digits. Assumes nothing.
use Rattle.std.proofs.Common.{◌≡◌, ℕ, suc, ◌+◌, ◌-◌, ◌*◌, ◌/◌, ◌%◌, ◌^◌, ◌<◌, ◌≤◌, Bool, true, false, T, eqb, leb, pos, sym, refl, ap, ◌∙◌, subst, ap₂, le_trans, lt_of_lt_of_le, le_of_lt, mod-eq_of_lt, zero-lt-suc, mul_assoc, mul-le-mul, mul-le-mul_left, mul-lt-mul_of_pos_right, mul-pos, mul-one, arith, lit<, lit≤, eqb→eq, pow_pos, pow_mono, pow-add}
use lib.Dec.{not_T}
use lib.Arith.{lt→nleb}
use lib.Ieee.{Float, binary32, binary64, mul, of_int, of_bits, of_fields, in_signed, to_signed}
use lib.Ieee.Back.{positive_back}
use lib.Ieee.Bits.{is_false}
use lib.Ieee.Exact.{HasValue, odd_sign}
use lib.Ieee.Positive.{positive_of_value, mul_at}
use lib.Ieee.Scale.{round_same}
use Rattle.packing.proofs.Fields.{of_bits_is, normal_is}
use Rattle.packing.proofs.Plain.{inside}
use Rattle.ieee.specs.Root.{sqrt}
use Rattle.ieee_length.specs.Mild.{small}
use Rattle.ieee_root.specs.Parts.{RootBits}
use Rattle.ieee_length.specs.Raised.{Raised, raised_bits, digits_bits, radicand_of}
use Rattle.ieee_length.proofs.Small.{small_value}
use Rattle.ieee_root.proofs.Tries.{try_small, try_right}

-- 2 ^ 46
factor : HasValue (of_bits binary64 4814348001659060224) false (2 ^ 46) 1
unfolding of_bits
factor = (refl, refl)

module _ (n : ℕ) where
  abbrev t : ℕ
  t = n / 2 ^ 29 % 2 ^ 23

  abbrev p : ℕ
  p = n / 2 ^ 52 % 2

  abbrev m : ℕ
  m = 2 ^ 52 + t * 2 ^ 29

  field : digits_bits n % 2 ^ 63 / 2 ^ 52 ≡ suc (1022 + p)
  field = omega arith

  rest : digits_bits n % 2 ^ 52 ≡ t * 2 ^ 29
  rest = omega arith

  plain : digits_bits n < 2 ^ 63
  plain = omega arith

  p_le : p ≤ 1
  p_le = omega arith

  digits_lt : m < 2 ^ 53
  digits_lt = omega arith

  m_pos : 0 < m
  m_pos = omega arith

  top_field : suc (1022 + p) ≡ 2047 → ⊥
  top_field e = omega (arith, p_le)

  value : HasValue (of_bits binary64 (digits_bits n)) false (m * 2 ^ (1022 + p)) (2 ^ 1074)
  value =
      subst (λ (v : Float). HasValue v false (m * 2 ^ (1022 + p)) (2 ^ 1074))
      (sym (of_bits_is binary64 (digits_bits n)
      ∙ ap (λ (s : Bool). of_fields binary64 s (digits_bits n % 2 ^ 63 / 2 ^ 52) (digits_bits n % 2 ^ 52)) (is_false (leb (2 ^ 63) (digits_bits n)) (lt→nleb (2 ^ 63) (digits_bits n) plain))
      ∙ ap₂ (λ (a b : ℕ). of_fields binary64 false a b) field rest
      ∙ normal_is binary64 false (1022 + p) (t * 2 ^ 29) (is_false (eqb (suc (1022 + p)) 2047) (not_T (eqb (suc (1022 + p)) 2047) (λ e. top_field (eqb→eq (suc (1022 + p)) 2047 e))))))
      (odd_sign 53 false m (1022 + p) 1074)

  pub digits_small : small 2 (of_bits binary64 (digits_bits n)) ≡ true
  digits_small =
      small_value 2 (of_bits binary64 (digits_bits n)) false (m * 2 ^ (1022 + p)) (2 ^ 1074) (pow_pos 1074) value
      (le_trans (mul-le-mul (le_of_lt digits_lt) (pow_mono {i = 1022 + p} {j = 1023} (omega (arith, p_le)))) (lit≤ tt))

  pub radicand_lt : radicand_of n < 2 ^ 48
  radicand_lt =
      let h : 2 ^ 23 + t < 2 ^ 24 = omega arith in
      lt_of_lt_of_le (mul-lt-mul_of_pos_right h (pow_pos (23 + p))) (mul-le-mul_left (2 ^ 24) (pow_mono {i = 23 + p} {j = 24} (omega (arith, p_le))))

  pub radicand_pos : 0 < radicand_of n
  radicand_pos = let h : 0 < 2 ^ 23 + t = omega arith in mul-pos h (pow_pos (23 + p))

  -- the product is exact, and whole
  same : m * 2 ^ (1022 + p) * 2 ^ 46 * 1 ≡ radicand_of n * (2 ^ 1074 * 1)
  same =
      let M = 2 ^ 23 + t in
      let e : m ≡ M * 2 ^ 29 = omega arith in
      let k : 29 + (1022 + p) + 46 ≡ 23 + p + 1074 = omega arith in
      mul-one (m * 2 ^ (1022 + p) * 2 ^ 46)
      ∙ ap (λ (z : ℕ). z * 2 ^ (1022 + p) * 2 ^ 46) e
      ∙ regroup M (2 ^ 29) (2 ^ (1022 + p)) (2 ^ 46)
      ∙ ap (λ (z : ℕ). M * z) (ap (λ (z : ℕ). z * 2 ^ 46) (sym (pow-add 2 29 (1022 + p))) ∙ sym (pow-add 2 (29 + (1022 + p)) 46) ∙ ap (λ (z : ℕ). 2 ^ z) k ∙ pow-add 2 (23 + p) 1074)
      ∙ sym (mul_assoc M (2 ^ (23 + p)) (2 ^ 1074))
      ∙ ap (λ (z : ℕ). radicand_of n * z) (sym (mul-one (2 ^ 1074)))
    where
      regroup : (a b c d : ℕ) → a * b * c * d ≡ a * (b * c * d)
      regroup a b c d = ap (λ (z : ℕ). z * d) (mul_assoc a b c) ∙ mul_assoc a (b * c) d

  abbrev product : Float
  product = mul binary64 (of_bits binary64 (digits_bits n)) (of_bits binary64 4814348001659060224)

  whole : product ≡ of_int binary64 (pos (radicand_of n))
  unfolding of_int
  whole =
      mul_at binary64 (of_bits binary64 (digits_bits n)) (of_bits binary64 4814348001659060224) (m * 2 ^ (1022 + p)) (2 ^ 1074) (2 ^ 46) 1
      (positive_of_value (of_bits binary64 (digits_bits n)) (m * 2 ^ (1022 + p)) (2 ^ 1074) value (mul-pos m_pos (pow_pos (1022 + p))))
      (positive_of_value (of_bits binary64 4814348001659060224) (2 ^ 46) 1 factor (pow_pos 46))
      (pow_pos 1074) (lit< tt) value factor
      ∙ round_same binary64 false (m * 2 ^ (1022 + p) * 2 ^ 46) (2 ^ 1074 * 1) (radicand_of n) 1 (mul-pos (pow_pos 1074) (zero-lt-suc 0)) (lit< tt) same

  abbrev back : T (in_signed binary64 63 (of_int binary64 (pos (radicand_of n)))) × (to_signed 63 (of_int binary64 (pos (radicand_of n))) ≡ pos (radicand_of n))
  back = positive_back binary64 63 (radicand_of n) (inside (radicand_of n) (le_of_lt (lt_of_lt_of_le radicand_lt (lit≤ tt)))) (lt_of_lt_of_le radicand_lt (lit≤ tt))

  pub cast_in : (a : Float) → a ≡ of_bits binary64 (digits_bits n) → T (in_signed binary64 63 (mul binary64 a (of_bits binary64 4814348001659060224)))
  cast_in a e = subst (λ (v : Float). T (in_signed binary64 63 v)) (sym (ap (λ (v : Float). mul binary64 v (of_bits binary64 4814348001659060224)) e ∙ whole)) back.0

  pub cast_is : (a : Float) → a ≡ of_bits binary64 (digits_bits n) → to_signed 63 (mul binary64 a (of_bits binary64 4814348001659060224)) ≡ pos (radicand_of n)
  cast_is a e = ap (to_signed 63) (ap (λ (v : Float). mul binary64 v (of_bits binary64 4814348001659060224)) e ∙ whole) ∙ back.1

-- ---- the root by the digits k, where k is nearest to the root of the radicand
pub guessed : (v : Float) (n k : ℕ) → Raised v n → 4044232465647140864 ≤ n → (n % 2 ^ 29 ≡ 0 → ⊥) → k * k < radicand_of n + k → radicand_of n ≤ k * k + k → RootBits v ((n / 2 ^ 53 - 386) * 2 ^ 23 + k)
guessed v n k r lo off under over =
    let b = raised_bits n in
    let e = b / 2 ^ 23 - 1 in
    let in_range = r.normal lo off in
    let digits : 2 ^ 23 + b % 2 ^ 23 ≡ 2 ^ 23 + n / 2 ^ 29 % 2 ^ 23 = omega (arith, in_range) in
    let parity : e % 2 ≡ n / 2 ^ 52 % 2 = omega (arith, in_range) in
    let same : radicand_of n ≡ (2 ^ 23 + b % 2 ^ 23) * 2 ^ (23 + e % 2) % 2 ^ 64 =
    sym (ap₂ (λ (x y : ℕ). x * 2 ^ (23 + y) % 2 ^ 64) digits parity ∙ mod-eq_of_lt (lt_of_lt_of_le (radicand_lt n) (lit≤ tt))) in
    let u = subst (λ (a : ℕ). k * k < a + k) same under in
    let o = subst (λ (a : ℕ). a ≤ k * k + k) same over in
    let place : (e + 126) / 2 ≡ n / 2 ^ 53 - 386 = omega (arith, in_range) in
    record {
      small = subst (λ (z : ℕ). z * 2 ^ 23 + k ≤ 2139095040) place (try_small b in_range.0 in_range.1 k u o);
      right = ap (λ (z : ℕ). of_bits binary32 (z * 2 ^ 23 + k)) (sym place) ∙ try_right b in_range.0 in_range.1 k u o ∙ ap (sqrt binary32) (r.right lo off);
    }
