-- A fraction that is rounded to an f64 first and then to an f32 is rounded as it would be at once, as long as the f64 is in the f32's normal range and lies not
-- in the middle between two f32s. Assumes nothing.
use mathlib.Core.Path.{◌≡◌, refl, sym, ap, ap₂, ◌∙◌, subst}
use mathlib.Core.Logic.{inl, inr}
use Prim.Native.Nat.{ℕ, suc, ◌+◌, ◌-◌, ◌*◌, ◌/◌, ◌%◌, ◌^◌, ◌≤◌, ◌<◌}
use native.Mathlib.Nat.{le_refl, le_trans, le_of_eq, mul_comm, mul_assoc, mul-pos, suc-mul, add-mul, mul-lt-mul_of_pos_right, pow-suc, eq-or-lt_of_le, eq_of_mul-eq-mul_right}
use native.Mathlib.Omega.{arith}
use mathlib.Core.Bool.{Bool, false, cond, beq}
use lib.Dec.{ltb, lit<, lit≤}
use lib.Arith.{le→nltb}
use lib.Pow.{pow_pos}
use lib.Ieee.{Float, nan, inf, fin, Format, binary32, binary64, prec, low, down, odd, units, round, sum, of_bits, top}
use lib.Ieee.Fits.{round_is, down_pos}
use lib.Ieee.Bits.{cond_no}
use lib.Ieee.Exact.{HasValue, units_val}
use lib.Ieee.Order.{drop, kept}
use lib.Ieee.Scale.{grid, overflow, round_same}
use lib.Ieee.Nearest.{closest}
use Rattle.lists.proofs.Naturals.{le_or_lt}
use Rattle.packing.proofs.Half.{closest_even, closest_up}
use Rattle.ieee.proofs.Nearby.{nearest_up, nearest_down, even_or_odd}
use Rattle.packing.proofs.Open.{round_open}
use Rattle.packing.proofs.Units.{units_bits}
use Rattle.packing.proofs.Cases.{at_normal}
use Rattle.packing.proofs.Sums.{order, like_or_not, sum_like, sum_more, sum_less, sum_none}

-- ---- the value of a rounded fraction
pub one_value : (r : Float) (s t : Bool) (a b c : ℕ) → HasValue r s a c → HasValue r t b c → (s ≡ t) × (a ≡ b)
one_value nan s t a b c h k = absurd h
one_value (inf u) s t a b c h k = absurd h
one_value (fin u m e) s t a b c h k = (sym h.0 ∙ k.0, eq_of_mul-eq-mul_right (down e) (down_pos e) a b (sym h.1 ∙ k.1))

pub units_over : (f : Format) (s : Bool) (q k : ℕ) → overflow f ≤ q * 2 ^ k → units f s q k ≡ inf s
unfolding units
units_over f s q k h = cond_no (ltb (q * 2 ^ k) (overflow f)) (odd (suc (prec f)) s q k (low f)) (inf s) (le→nltb (q * 2 ^ k) (overflow f) h)

pub round_value : (f : Format) (s : Bool) (a c : ℕ) (t : Bool) (A : ℕ) → HasValue (round f s a c) t A (2 ^ low f) → (s ≡ t) × (grid f a c ≡ A)
round_value f s a c t A h = elim (le_or_lt (overflow f) (grid f a c)) [
  | inl g ↦ absurd (subst (λ (r : Float). HasValue r t A (2 ^ low f)) (round_is f s a c ∙ units_over f s (kept (prec f) (a * 2 ^ low f) c) (drop (prec f) (a * 2 ^ low f) c) g) h)
  | inr g ↦ one_value (round f s a c) s t (grid f a c) A (2 ^ low f) (subst (λ (z : Float). HasValue z s (grid f a c) (2 ^ low f)) (sym (round_is f s a c)) (units_val f s (kept (prec f) (a * 2 ^ low f) c) (drop (prec f) (a * 2 ^ low f) c) g)) h
]

-- ---- digits
module _ (m : ℕ) (off : m % 2 ^ 29 ≡ 2 ^ 28 → ⊥) where
  pub half_up : closest (m * 2 ^ 11) (2 ^ 40) ≡ suc (m / 2 ^ 28) / 2
  half_up = elim (even_or_odd (m / 2 ^ 28)) [
    | inl z ↦ closest_even (m * 2 ^ 11) (2 ^ 40) (m / 2 ^ 28) (2 ^ 39) (m % 2 ^ 28 * 2 ^ 11) refl (omega arith) (omega arith) z ∙ omega arith
    | inr z ↦ closest_up (m * 2 ^ 11) (2 ^ 40) (m / 2 ^ 28) (2 ^ 39) (m % 2 ^ 28 * 2 ^ 11) refl (omega arith) (omega arith) z (some z) ∙ omega arith
  ]
    where
      some : m / 2 ^ 28 % 2 ≡ 1 → 0 < m % 2 ^ 28 * 2 ^ 11
      some z = elim (le_or_lt (m % 2 ^ 28) 0) [ inl e ↦ absurd (off (omega arith)) | inr e ↦ omega arith ]

  pred_same : 0 < m → suc ((m - 1) / 2 ^ 28) / 2 ≡ suc (m / 2 ^ 28) / 2
  pred_same h = elim (le_or_lt (m % 2 ^ 28) 0) [
    | inl e ↦ elim (even_or_odd (m / 2 ^ 28)) [ inl z ↦ omega arith | inr z ↦ absurd (off (omega arith)) ]
    | inr e ↦ omega arith
  ]

-- ---- num / den is rounded to m * 2 ^ x / 2 ^ 1074
module _ (s : Bool) (num den m x : ℕ) (D : 0 < den) (lo : 2 ^ 52 ≤ m) (hi : m < 2 ^ 53) (X : 896 ≤ x) (X' : x ≤ 1149) (off : m % 2 ^ 29 ≡ 2 ^ 28 → ⊥) (g : grid binary64 num den ≡ m * 2 ^ x) where
  target : round binary32 s (m * 2 ^ x) (2 ^ 1074) ≡ units binary32 s (suc (m / 2 ^ 28) / 2) (x - 896)
  target = at_normal m x 11 52 lo hi refl s (x - 896) (omega arith) ∙ ap (λ (q : ℕ). units binary32 s q (x - 896)) (half_up m off)

  -- a value of 53 digits above the result, or below it
  high_side : (y j : ℕ) → y < 2 ^ 53 → m * 2 ^ x < y * 2 ^ j → 2 * (num * 2 ^ 1074) ≤ (m * 2 ^ x + y * 2 ^ j) * den
  high_side y j h l = subst (λ (r : ℕ). 2 * (num * 2 ^ 1074) ≤ (r + y * 2 ^ j) * den) g (nearest_up 53 (num * 2 ^ 1074) den (lit< tt) D y j h (subst (λ (r : ℕ). r < y * 2 ^ j) (sym g) l))

  low_side : (y j : ℕ) → y < 2 ^ 53 → y * 2 ^ j < m * 2 ^ x → (m * 2 ^ x + y * 2 ^ j) * den ≤ 2 * (num * 2 ^ 1074)
  low_side y j h l = subst (λ (r : ℕ). (r + y * 2 ^ j) * den ≤ 2 * (num * 2 ^ 1074)) g (nearest_down 53 (num * 2 ^ 1074) den (lit< tt) D y j h (subst (λ (r : ℕ). y * 2 ^ j < r) (sym g) l))

  one_up : (i y : ℕ) → suc i * 2 ^ y * den ≡ i * 2 ^ y * den + 2 ^ y * den
  one_up i y = ap (λ (z : ℕ). z * den) (suc-mul i (2 ^ y)) ∙ add-mul (i * 2 ^ y) (2 ^ y) den

  more : (i y : ℕ) → i * 2 ^ y < suc i * 2 ^ y
  more i y = mul-lt-mul_of_pos_right (le_refl (suc i)) (pow_pos y)

  middle : (N u v c : ℕ) → v ≡ u + c → 0 < c → 2 * N ≤ u + v → N < v
  middle N u v c e p h = omega arith

  middle_low : (N u v c : ℕ) → v ≡ u + c → 0 < c → v + u ≤ 2 * N → u < N
  middle_low N u v c e p h = omega arith

  upper : num * 2 ^ 1074 < suc m * 2 ^ x * den
  upper = middle (num * 2 ^ 1074) (m * 2 ^ x * den) (suc m * 2 ^ x * den) (2 ^ x * den) (one_up m x) (mul-pos (pow_pos x) D) (le_trans at (le_of_eq (add-mul (m * 2 ^ x) (suc m * 2 ^ x) den)))
    where
      full : suc m ≡ 2 ^ 53 → 2 ^ 52 * 2 ^ suc x ≡ suc m * 2 ^ x
      full e = ap (λ (z : ℕ). 2 ^ 52 * z) (pow-suc 2 x ∙ mul_comm (2 ^ x) 2) ∙ sym (mul_assoc (2 ^ 52) 2 (2 ^ x)) ∙ ap (λ (z : ℕ). z * 2 ^ x) (sym e)

      at : 2 * (num * 2 ^ 1074) ≤ (m * 2 ^ x + suc m * 2 ^ x) * den
      at = elim (eq-or-lt_of_le hi) [
        | inl e ↦ subst (λ (z : ℕ). 2 * (num * 2 ^ 1074) ≤ (m * 2 ^ x + z) * den) (full e) (high_side (2 ^ 52) (suc x) (lit< tt) (subst (λ (z : ℕ). m * 2 ^ x < z) (sym (full e)) (more m x)))
        | inr h ↦ high_side (suc m) x h (more m x)
      ]

  above : m * 2 ^ x * den < num * 2 ^ 1074 → round binary32 s num den ≡ units binary32 s (suc (m / 2 ^ 28) / 2) (x - 896)
  above l = round_open binary32 s m x 1074 52 lo hi (lit≤ tt) num den D (l, upper) ∙ ap₂ (λ (a b : ℕ). units binary32 s (suc (m / 2 ^ a) / 2) b) gap_is drop_is
    where
      drop_is : suc (52 + x + 149) - 1074 - 24 ≡ x - 896
      drop_is = omega arith

      gap_is : suc (52 + x + 149) - 1074 - 24 + 1074 - suc (x + 149) ≡ 28
      gap_is = omega arith

  -- from below: i * 2 ^ y is the next value down
  below_at : (i y : ℕ) → 2 ^ 52 ≤ i → i < 2 ^ 53 → suc i * 2 ^ y ≡ m * 2 ^ x → num * 2 ^ 1074 < m * 2 ^ x * den
      → round binary32 s num den ≡ units binary32 s (suc (i / 2 ^ (suc (52 + y + 149) - 1074 - 24 + 1074 - suc (y + 149))) / 2) (suc (52 + y + 149) - 1074 - 24)
  below_at i y a b e l = round_open binary32 s i y 1074 52 a b (lit≤ tt) num den D (under, subst (λ (z : ℕ). num * 2 ^ 1074 < z * den) (sym e) l)
    where
      under : i * 2 ^ y * den < num * 2 ^ 1074
      under = middle_low (num * 2 ^ 1074) (i * 2 ^ y * den) (suc i * 2 ^ y * den) (2 ^ y * den) (one_up i y) (mul-pos (pow_pos y) D)
          (le_trans (le_of_eq (sym (add-mul (suc i * 2 ^ y) (i * 2 ^ y) den) ∙ ap (λ (z : ℕ). (z + i * 2 ^ y) * den) e)) (low_side i y b (subst (λ (z : ℕ). i * 2 ^ y < z) e (more i y))))

  below : num * 2 ^ 1074 < m * 2 ^ x * den → round binary32 s num den ≡ units binary32 s (suc (m / 2 ^ 28) / 2) (x - 896)
  below l = elim (eq-or-lt_of_le lo) [ inl e ↦ at_power (sym e) | inr h ↦ plain h ]
    where
      plain : 2 ^ 52 < m → round binary32 s num den ≡ units binary32 s (suc (m / 2 ^ 28) / 2) (x - 896)
      plain h =
          let p : suc (m - 1) ≡ m = omega arith in
          let gap_is : suc (52 + x + 149) - 1074 - 24 + 1074 - suc (x + 149) ≡ 28 = omega arith in
          let drop_is : suc (52 + x + 149) - 1074 - 24 ≡ x - 896 = omega arith in
          below_at (m - 1) x (omega arith) (omega arith) (ap (λ (z : ℕ). z * 2 ^ x) p) l
          ∙ ap₂ (λ (a b : ℕ). units binary32 s (suc ((m - 1) / 2 ^ a) / 2) b) gap_is drop_is
          ∙ ap (λ (q : ℕ). units binary32 s q (x - 896)) (pred_same m off (omega arith))

      at_power : m ≡ 2 ^ 52 → round binary32 s num den ≡ units binary32 s (suc (m / 2 ^ 28) / 2) (x - 896)
      at_power e =
          let up : suc (x - 1) ≡ x = omega arith in
          let w : 2 ^ 53 * 2 ^ (x - 1) ≡ m * 2 ^ x = mul_assoc (2 ^ 52) 2 (2 ^ (x - 1)) ∙ ap₂ (λ (a b : ℕ). a * b) (sym e) (mul_comm 2 (2 ^ (x - 1)) ∙ sym (pow-suc 2 (x - 1)) ∙ ap (λ (z : ℕ). 2 ^ z) up) in
          below_at (2 ^ 53 - 1) (x - 1) (lit≤ tt) (lit< tt) w l
          ∙ elim (eq-or-lt_of_le X) [ inl z ↦ lowest (sym z) | inr h ↦ higher h ]
          ∙ ap (λ (q : ℕ). units binary32 s q (x - 896)) (sym (ap (λ (z : ℕ). suc (z / 2 ^ 28) / 2) e))
        where
          lowest : x ≡ 896 → units binary32 s (suc ((2 ^ 53 - 1) / 2 ^ (suc (52 + (x - 1) + 149) - 1074 - 24 + 1074 - suc (x - 1 + 149))) / 2) (suc (52 + (x - 1) + 149) - 1074 - 24) ≡ units binary32 s (2 ^ 23) (x - 896)
          lowest z = subst (λ (x : ℕ). units binary32 s (suc ((2 ^ 53 - 1) / 2 ^ (suc (52 + (x - 1) + 149) - 1074 - 24 + 1074 - suc (x - 1 + 149))) / 2) (suc (52 + (x - 1) + 149) - 1074 - 24) ≡ units binary32 s (2 ^ 23) (x - 896)) (sym z) refl

          higher : 896 < x → units binary32 s (suc ((2 ^ 53 - 1) / 2 ^ (suc (52 + (x - 1) + 149) - 1074 - 24 + 1074 - suc (x - 1 + 149))) / 2) (suc (52 + (x - 1) + 149) - 1074 - 24) ≡ units binary32 s (2 ^ 23) (x - 896)
          higher h =
              let gap_is : suc (52 + (x - 1) + 149) - 1074 - 24 + 1074 - suc (x - 1 + 149) ≡ 28 = omega arith in
              let drop_is : suc (52 + (x - 1) + 149) - 1074 - 24 ≡ x - 897 = omega arith in
              let n : (x - 897) * 2 ^ 23 + 2 ^ 24 ≡ (x - 896) * 2 ^ 23 + 2 ^ 23 = omega arith in
              ap₂ (λ (a b : ℕ). units binary32 s (suc ((2 ^ 53 - 1) / 2 ^ a) / 2) b) gap_is drop_is
              ∙ sym (units_bits s (2 ^ 24) (x - 897) (lit≤ tt) (inr (lit≤ tt)) (omega arith))
              ∙ ap (λ (z : ℕ). of_bits binary32 (cond s (top binary32) 0 + z)) n
              ∙ units_bits s (2 ^ 23) (x - 896) (lit≤ tt) (inr (lit≤ tt)) (omega arith)

  pub round_twice : round binary32 s num den ≡ round binary32 s (m * 2 ^ x) (2 ^ 1074)
  round_twice = elim (order (num * 2 ^ 1074) (m * 2 ^ x * den)) [
    | inl h ↦ below h ∙ sym target
    | inr (inl h) ↦ above h ∙ sym target
    | inr (inr h) ↦ round_same binary32 s num den (m * 2 ^ x) (2 ^ 1074) D (pow_pos 1074) h
  ]

-- ---- a sum is one rounding, whatever the format
pub sum_rounds : (s : Bool) (a : ℕ) (t : Bool) (b c : ℕ) → (u : Bool) × (n : ℕ) × ((f : Format) → sum f s a t b c ≡ round f u n c)
sum_rounds s a t b c = elim (like_or_not (beq s t)) [
  | inl e ↦ (s, a + b, λ f. sum_like f s a t b c e)
  | inr e ↦ elim (order a b) [
    | inl h ↦ (t, b - a, λ f. sum_less f s a t b c e h)
    | inr (inl h) ↦ (s, a - b, λ f. sum_more f s a t b c e h)
    | inr (inr h) ↦ (false, 0, λ f. sum_none f s a t b c e h)
  ]
]

-- a sum that is m * 2 ^ x / 2 ^ 1074 as an f64
pub sum_twice : (s : Bool) (a : ℕ) (t : Bool) (b c : ℕ) (v : Bool) (m x : ℕ) → 0 < c → 2 ^ 52 ≤ m → m < 2 ^ 53 → 896 ≤ x → x ≤ 1149 → (m % 2 ^ 29 ≡ 2 ^ 28 → ⊥)
    → HasValue (sum binary64 s a t b c) v (m * 2 ^ x) (2 ^ 1074) → sum binary32 s a t b c ≡ round binary32 v (m * 2 ^ x) (2 ^ 1074)
sum_twice s a t b c v m x C lo hi X X' off h =
    let w = sum_rounds s a t b c in
    let k = round_value binary64 w.0 w.1 c v (m * 2 ^ x) (subst (λ (r : Float). HasValue r v (m * 2 ^ x) (2 ^ 1074)) (w.2 binary64) h) in
    w.2 binary32 ∙ ap (λ (u : Bool). round binary32 u w.1 c) k.0 ∙ round_twice v w.1 c m x C lo hi X X' off k.1
