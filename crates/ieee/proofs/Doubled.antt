-- a * b + c of f32s in binary64, and the f32 of a pattern of binary64. Assumes nothing.
use mathlib.Core.Path.{◌≡◌, refl, sym, ap, ◌∙◌, subst}
use mathlib.Core.Logic.{inl, inr}
use Prim.Native.Nat.{ℕ, suc, ◌+◌, ◌-◌, ◌*◌, ◌/◌, ◌%◌, ◌^◌, ◌≤◌, ◌<◌}
use native.Mathlib.Nat.{lt_of_lt_of_le, lt_of_le_of_lt, mul_assoc, mul-pos, mul-le-mul, mod-lt, mod-eq_of_lt, zero-add}
use native.Mathlib.Omega.{arith}
use mathlib.Core.Bool.{Bool, true, false, not, cond, false≢true}
use lib.Dec.{T, leb, eqb, not_T, eqb→eq, lit<, lit≤}
use lib.Arith.{lt→nleb}
use lib.Pow.{pow_pos, pow_mono, shl_lt}
use lib.Ieee.{Float, nan, inf, fin, Format, binary32, binary64, prec, low, top, up, down, unlike, units, round, sum, add, mul, fits, is_nan, to_bits, of_bits, of_fields}
use lib.Ieee.Fits.{round_is, down_pos, add-fits}
use lib.Ieee.Bits.{is_false, of_bits-to_bits}
use lib.Ieee.Exact.{HasValue, units_val, odd_sign}
use lib.Ieee.Order.{drop, kept}
use lib.Ieee.Scale.{finite, grid, overflow, round_same}
use Rattle.lists.proofs.Naturals.{le_or_lt}
use Rattle.ieee.specs.Fused.{fma, convert}
use Rattle.packing.specs.Parts.{Splits}
use Rattle.ieee.specs.Parts.{RoundsOnce, narrow_bits}
use Rattle.packing.proofs.Fields.{of_bits_is, normal_is, value_low, value_normal, field_ne}
use Rattle.packing.proofs.Plain.{value_no_nan}
use Rattle.ieee.proofs.Product.{fma_parts, powers, later}
use Rattle.ieee.proofs.Exactly.{fused_digits}
use Rattle.packing.proofs.Cases.{normal_case}
use Rattle.ieee.proofs.Twice.{half_up, sum_twice, sum_rounds, units_over}

-- ---- the parts of a finite f32
pub record Split (v : Float) : Type 0 where
  pub s : Bool
  pub m : ℕ
  pub x : ℕ
  pub parts : Splits 149 24 253 v s m x

pub split32 : (v : Float) → T (fits binary32 v) → finite v ≡ true → Split v
split32 v h n = elim (le_or_lt (to_bits binary32 v % 2 ^ 31 / 2 ^ 23) 0) [
  | inl z ↦ record { s = leb (top binary32) (to_bits binary32 v); m = to_bits binary32 v % 2 ^ 23; x = 0; parts = record { value = value_low binary32 v h n (omega arith); digits = omega (arith, mod-lt (to_bits binary32 v) (pow_pos 23)); place = omega arith } }
  | inr z ↦
      (let b = to_bits binary32 v in
      let e = b % 2 ^ 31 / 2 ^ 23 in
      let up : e ≡ suc (e - 1) = omega arith in
      let ne : suc (e - 1) ≡ 255 → ⊥ = field_ne binary32 v h n (e - 1) up in
      record { s = leb (top binary32) b; m = 2 ^ 23 + b % 2 ^ 23; x = e - 1; parts = record { value = value_normal binary32 v h n (e - 1) up; digits = omega (arith, mod-lt b (pow_pos 23)); place = omega (arith, mod-lt b (pow_pos 31), ne) } })
]

-- ---- what a finite result tells of the operands
pub add_finite : (f : Format) (x y : Float) → finite (add f x y) ≡ true → (finite x ≡ true) × (finite y ≡ true)
unfolding add
add_finite f nan y h = absurd (false≢true h)
add_finite f (inf s) nan h = absurd (false≢true h)
add_finite f (inf true) (inf true) h = absurd (false≢true h)
add_finite f (inf true) (inf false) h = absurd (false≢true h)
add_finite f (inf false) (inf true) h = absurd (false≢true h)
add_finite f (inf false) (inf false) h = absurd (false≢true h)
add_finite f (inf s) (fin t n d) h = absurd (false≢true h)
add_finite f (fin s m e) nan h = absurd (false≢true h)
add_finite f (fin s m e) (inf t) h = absurd (false≢true h)
add_finite f (fin s m e) (fin t n d) h = (refl, refl)

pick : (b : Bool) (s : Bool) → finite (cond b nan (inf s)) ≡ true → ⊥
pick true s h = false≢true h
pick false s h = false≢true h

pub mul_finite : (f : Format) (x y : Float) → finite (mul f x y) ≡ true → (finite x ≡ true) × (finite y ≡ true)
unfolding mul
mul_finite f nan y h = absurd (false≢true h)
mul_finite f (inf s) nan h = absurd (false≢true h)
mul_finite f (inf s) (inf t) h = absurd (false≢true h)
mul_finite f (inf s) (fin t n d) h = absurd (pick (eqb n 0) (unlike s t) h)
mul_finite f (fin s m e) nan h = absurd (false≢true h)
mul_finite f (fin s m e) (inf t) h = absurd (pick (eqb m 0) (unlike s t) h)
mul_finite f (fin s m e) (fin t n d) h = (refl, refl)

-- ---- a rounded fraction is no NaN
inf_no_nan : (s : Bool) → T (not (is_nan (inf s)))
unfolding is_nan
inf_no_nan s = tt

pub round_no_nan : (f : Format) (s : Bool) (a c : ℕ) → T (not (is_nan (round f s a c)))
round_no_nan f s a c = subst (λ (r : Float). T (not (is_nan r))) (sym (round_is f s a c)) (elim (le_or_lt (overflow f) (grid f a c)) [
  | inl g ↦ subst (λ (r : Float). T (not (is_nan r))) (sym (units_over f s (kept (prec f) (a * 2 ^ low f) c) (drop (prec f) (a * 2 ^ low f) c) g)) (inf_no_nan s)
  | inr g ↦ value_no_nan (units f s (kept (prec f) (a * 2 ^ low f) c) (drop (prec f) (a * 2 ^ low f) c)) s (grid f a c) (2 ^ low f) (units_val f s (kept (prec f) (a * 2 ^ low f) c) (drop (prec f) (a * 2 ^ low f) c) g)
])

-- ---- the product of two f32s has digits enough in binary64
pub product_lt : (m n : ℕ) → m < 2 ^ 24 → n < 2 ^ 24 → m * n < 2 ^ 48
product_lt m n a b =
    let h : m ≤ 2 ^ 24 - 1 = omega arith in
    let k : n ≤ 2 ^ 24 - 1 = omega arith in
    lt_of_le_of_lt (mul-le-mul h k) (lit< tt)

module _ (a b c : Float) (A : Split a) (B : Split b) (C : Split c) where
  abbrev S : Bool
  S = unlike A.s B.s

  abbrev P : ℕ
  P = A.m * B.m * 2 ^ (A.x + B.x)

  abbrev Q : ℕ
  Q = C.m * 2 ^ (C.x + 149)

  pub fma_is : (f : Format) → fma f a b c ≡ sum f S P C.s Q (2 ^ 149 * 2 ^ 149)
  fma_is f = fma_parts f a b c A.s B.s C.s A.m B.m C.m A.x B.x C.x 149 A.parts.value B.parts.value C.parts.value

  pub wide_is : add binary64 (mul binary64 a b) c ≡ fma binary64 a b c
  wide_is =
      let m = A.m * B.m in
      let i = A.x + B.x in
      let digits : m < 2 ^ 48 = product_lt A.m B.m A.parts.digits B.parts.digits in
      fused_digits binary64 a b c A.s B.s (A.m * 2 ^ A.x) (2 ^ 149) (B.m * 2 ^ B.x) (2 ^ 149) m (i + 776) (pow_pos 149) (pow_pos 149) A.parts.value B.parts.value
      (lt_of_lt_of_le digits (lit≤ tt))
      (lt_of_lt_of_le (shl_lt 48 (i + 776) digits) (pow_mono {i = 48 + (i + 776)} {j = 2098} (omega (arith, A.parts.place, B.parts.place))))
      (ap (λ (z : ℕ). z * 2 ^ 1074) (powers A.m B.m A.x B.x) ∙ sym (mul_assoc (m * 2 ^ i) (2 ^ 776) (2 ^ 149 * 2 ^ 149)) ∙ ap (λ (z : ℕ). z * (2 ^ 149 * 2 ^ 149)) (later m i 776))

  pub wide_no_nan : T (not (is_nan (fma binary64 a b c)))
  wide_no_nan =
      let w = sum_rounds S P C.s Q (2 ^ 149 * 2 ^ 149) in
      subst (λ (r : Float). T (not (is_nan r))) (sym (fma_is binary64 ∙ w.2 binary64)) (round_no_nan binary64 w.0 w.1 (2 ^ 149 * 2 ^ 149))

-- ---- what has a value is finite
pub value_finite : (v : Float) (s : Bool) (a c : ℕ) → HasValue v s a c → finite v ≡ true
value_finite nan s a c h = absurd h
value_finite (inf t) s a c h = absurd h
value_finite (fin t m e) s a c h = refl

-- ---- the value of a pattern that rounds once
pub converted : (v : Float) (s : Bool) (a l : ℕ) → HasValue v s a (2 ^ l) → convert binary32 v ≡ round binary32 s a (2 ^ l)
unfolding convert
converted nan s a l h = absurd h
converted (inf t) s a l h = absurd h
converted (fin t m e) s a l h = ap (λ (u : Bool). round binary32 u (m * up e) (down e)) h.0 ∙ round_same binary32 s (m * up e) (down e) a (2 ^ l) (down_pos e) (pow_pos l) h.1

module _ (n : ℕ) (k : RoundsOnce n) where
  abbrev x : ℕ
  x = n % 2 ^ 63 / 2 ^ 52 - 1

  abbrev m : ℕ
  m = 2 ^ 52 + n % 2 ^ 52

  abbrev sign : Bool
  sign = leb (top binary64) n

  x_ge : 896 ≤ x
  x_ge = omega (arith, k.low)

  x_le : x ≤ 1149
  x_le = omega (arith, k.high)

  off : m % 2 ^ 29 ≡ 2 ^ 28 → ⊥
  off e = k.off (omega arith)

  field : n % 2 ^ 63 / 2 ^ 52 ≡ suc x
  field = omega (arith, k.low)

  once_value : HasValue (of_bits binary64 n) sign (m * 2 ^ x) (2 ^ 1074)
  once_value =
      subst (λ (v : Float). HasValue v sign (m * 2 ^ x) (2 ^ 1074))
      (sym (of_bits_is binary64 n ∙ ap (λ (z : ℕ). of_fields binary64 sign z (n % 2 ^ 52)) field ∙ normal_is binary64 sign x (n % 2 ^ 52) (is_false (eqb (suc x) 2047) (not_T (eqb (suc x) 2047) (λ t. top_field (eqb→eq (suc x) 2047 t))))))
      (odd_sign 53 sign m x 1074)
    where
      top_field : suc x ≡ 2047 → ⊥
      top_field e = omega (arith, x_le)

  pattern : narrow_bits n ≡ (x - 896) * 2 ^ 23 + suc (m / 2 ^ 28) / 2
  pattern = omega (arith, k.low)

  pub narrow_is : of_bits binary32 (cond sign (top binary32) 0 + narrow_bits n) ≡ convert binary32 (of_bits binary64 n)
  narrow_is =
      ap (λ (z : ℕ). of_bits binary32 (cond sign (top binary32) 0 + z)) (pattern ∙ ap (λ (z : ℕ). (x - 896) * 2 ^ 23 + z) (sym (half_up m off)))
      ∙ normal_case m x 11 52 (omega arith) (omega (arith, mod-lt n (pow_pos 52))) refl sign (x - 896) (omega (arith, x_ge)) (omega (arith, x_le))
      ∙ sym (converted (of_bits binary64 n) sign (m * 2 ^ x) 1074 once_value)

  pub narrow_le : narrow_bits n ≤ 2139095040
  narrow_le = omega (arith, k.high)

  pub once_finite : finite (of_bits binary64 n) ≡ true
  once_finite = value_finite (of_bits binary64 n) sign (m * 2 ^ x) (2 ^ 1074) once_value

  pub fma_narrow : (a b c : Float) → Split a → Split b → Split c → of_bits binary64 n ≡ fma binary64 a b c → convert binary32 (of_bits binary64 n) ≡ fma binary32 a b c
  fma_narrow a b c A B C e =
      converted (of_bits binary64 n) sign (m * 2 ^ x) 1074 once_value
      ∙ sym (fma_is a b c A B C binary32
      ∙ sum_twice (unlike A.s B.s) (A.m * B.m * 2 ^ (A.x + B.x)) C.s (C.m * 2 ^ (C.x + 149)) (2 ^ 149 * 2 ^ 149) sign m x (mul-pos (pow_pos 149) (pow_pos 149)) (omega arith) (omega (arith, mod-lt n (pow_pos 52))) x_ge x_le off
      (subst (λ (v : Float). HasValue v sign (m * 2 ^ x) (2 ^ 1074)) (e ∙ fma_is a b c A B C binary64) once_value))

-- ---- such a pattern with no sign; and below the f64 of the largest f32, where what it rounds to is a normal number
pub plain_is : (n : ℕ) → RoundsOnce n → n < 2 ^ 63 → of_bits binary32 (narrow_bits n) ≡ convert binary32 (of_bits binary64 n)
plain_is n k hi =
    ap (of_bits binary32) (sym (zero-add (narrow_bits n)))
    ∙ subst (λ (b : Bool). of_bits binary32 (cond b (top binary32) 0 + narrow_bits n) ≡ convert binary32 (of_bits binary64 n)) (is_false (leb (2 ^ 63) n) (lt→nleb (2 ^ 63) n hi)) (narrow_is n k)

pub plain_normal : (n : ℕ) → RoundsOnce n → n < 5183643170566569984 → (8388608 ≤ narrow_bits n) × (narrow_bits n < 2139095040)
plain_normal n k hi = let e : n % 2 ^ 63 ≡ n = mod-eq_of_lt (lt_of_lt_of_le hi (lit≤ tt)) in (omega (arith, k.low), omega (arith, k.low))

-- ---- a * b + c of f32s whose plain sum is finite
module _ (a b c : Float) (ha : T (fits binary32 a)) (hb : T (fits binary32 b)) (hc : T (fits binary32 c)) (f : finite (add binary32 (mul binary32 a b) c) ≡ true) where
  pub all_finite : (finite a ≡ true) × (finite b ≡ true) × (finite c ≡ true)
  all_finite =
      let p = add_finite binary32 (mul binary32 a b) c f in
      let q = mul_finite binary32 a b p.0 in
      (q.0, q.1, p.1)

  module _ (w : Float) (e : w ≡ fma binary64 a b c) where
    pub fused_no_nan : T (not (is_nan w))
    fused_no_nan = subst (λ (v : Float). T (not (is_nan v))) (sym e) (wide_no_nan a b c (split32 a ha all_finite.0) (split32 b hb all_finite.1) (split32 c hc all_finite.2))

    pub fused_narrow : RoundsOnce (to_bits binary64 w) → convert binary32 (of_bits binary64 (to_bits binary64 w)) ≡ fma binary32 a b c
    fused_narrow k =
        let A = split32 a ha all_finite.0 in
        let B = split32 b hb all_finite.1 in
        let C = split32 c hc all_finite.2 in
        let back : of_bits binary64 (to_bits binary64 w) ≡ w = of_bits-to_bits binary64 w (subst (λ (v : Float). T (fits binary64 v)) (wide_is a b c A B C ∙ sym e) (add-fits binary64 (mul binary64 a b) c)) in
        fma_narrow (to_bits binary64 w) k a b c A B C (back ∙ e)
