-- Whole parts with no branch: shifts stopped at 40, and rounding by a sum. Assumes nothing.
use mathlib.Core.Path.{◌≡◌, refl, sym, ap, ◌∙◌}
use mathlib.Core.Logic.{◌⊎◌, inl, inr}
use Prim.Native.Nat.{Ordering}
use Prim.Native.Nat.{ℕ, zero, suc, ◌+◌, ◌-◌, ◌*◌, ◌/◌, ◌%◌, ◌^◌, ◌≤◌, ◌<◌, min}
use native.Mathlib.Nat.{le_refl, le_trans, le_of_eq, le_of_lt, lt_of_lt_of_le, lt_of_le_of_lt, mod-lt, mod-eq_of_lt, div-add-mod', div-le_self, add-zero, one-mul, mul-one, pow-suc, suc-mul, mul-le-mul_left}
use native.Mathlib.Omega.{arith}
use mathlib.Core.Bool.{Bool, true, false}
use lib.Dec.{lit<, lit≤}
use lib.Arith.{digits_div}
use lib.Pow.{pow_pos, pow_mono}
use lib.Ieee.Nearest.{closest, closest_mono}
use Rattle.lists.proofs.Naturals.{le_or_lt}
use Rattle.ieee_whole.specs.declared.Way.{Way}
use Rattle.ieee_whole.specs.declared.Way.TheVariants.{Zero, Down, Near}
use Rattle.ieee_whole.specs.Parts.{whole_size, before_cut}
use Rattle.packing.proofs.Half.{closest_is, cmp_lt, cmp_eq, cmp_gt}
use Rattle.ieee.proofs.Nearby.{even_or_odd}
use Rattle.ieee_whole.proofs.Wholes.{floor_none, near_none, ceil_one, ceil_zero, ceil_le}

-- ---- to the nearest by a sum: b is twice p
module _ (m b p : ℕ) (B : b ≡ p * 2) (P : 0 < p) where
  abbrev q : ℕ
  q = m / b

  abbrev r : ℕ
  r = m % b

  split : m ≡ q * b + r
  split = sym (div-add-mod' m b)

  r_lt : r < b
  r_lt = mod-lt m (omega arith)

  at : (t u : ℕ) → m + t ≡ u * b + (m + t - u * b) → m + t - u * b < b → (m + t) / b ≡ u
  at t u e l = ap (λ (x : ℕ). x / b) e ∙ digits_div u l

  pub near_sum : (m + (p - 1 + m / b % 2)) / b ≡ closest m b
  near_sum =
      let w : suc q * b ≡ q * b + b = suc-mul q b in
      let t : q % 2 < 2 = mod-lt q (lit< tt) in
      elim (le_or_lt p r) [
        | inr h ↦ at (p - 1 + q % 2) q (omega (arith, split)) (omega (arith, split)) ∙ sym (closest_is m b q r Ordering.lt split r_lt (cmp_lt (r * 2) b (omega arith)))
        | inl h ↦ elim (le_or_lt r p) [
          | inr g ↦ at (p - 1 + q % 2) (suc q) (omega (arith, split, r_lt)) (omega (arith, split, r_lt)) ∙ sym (closest_is m b q r Ordering.gt split r_lt (cmp_gt (r * 2) b (omega arith)))
          | inl g ↦ level (omega arith) (even_or_odd q) w
        ]
      ]
    where
      level : r ≡ p → (q % 2 ≡ 0) ⊎ (q % 2 ≡ 1) → suc q * b ≡ q * b + b → (m + (p - 1 + q % 2)) / b ≡ closest m b
      level e (inl z) w = at (p - 1 + q % 2) q (omega (arith, split)) (omega (arith, split)) ∙ sym (closest_is m b q r Ordering.eq split r_lt (cmp_eq (r * 2) b (omega arith)) ∙ omega arith)
      level e (inr z) w = at (p - 1 + q % 2) (suc q) (omega (arith, split)) (omega (arith, split)) ∙ sym (closest_is m b q r Ordering.eq split r_lt (cmp_eq (r * 2) b (omega arith)) ∙ omega arith)

-- ---- a shift by 40 does for one by more
size_far : (w : Way) (s : Bool) (m d : ℕ) → m < 2 ^ 24 → 40 ≤ d → whole_size w s m (2 ^ 40) ≡ whole_size w s m (2 ^ d)
size_far Zero s m d h l = floor_none m 40 h (le_refl 40) ∙ sym (floor_none m d h l)
size_far Near s m d h l = near_none m 40 h (le_refl 40) ∙ sym (near_none m d h l)
size_far Down false m d h l = floor_none m 40 h (le_refl 40) ∙ sym (floor_none m d h l)
size_far Down true zero d h l = ceil_zero 40 ∙ sym (ceil_zero d)
size_far Down true (suc m) d h l = ceil_one (suc m) 40 h (le_refl 40) (λ z. no z) ∙ sym (ceil_one (suc m) d h l (λ z. no z))
  where
    no : suc m ≡ 0 → ⊥
    no z = omega arith

pub size_stop : (w : Way) (s : Bool) (m d h : ℕ) → m < 2 ^ 24 → h ≡ min d 40 → whole_size w s m (2 ^ h) ≡ whole_size w s m (2 ^ d)
size_stop w s m d h k e = elim (le_or_lt 40 d) [
  | inl l ↦ ap (λ (x : ℕ). whole_size w s m (2 ^ x)) (is_far l) ∙ size_far w s m d k l
  | inr l ↦ ap (λ (x : ℕ). whole_size w s m (2 ^ x)) (is_near l)
]
  where
    is_far : 40 ≤ d → h ≡ 40
    is_far l = omega arith

    is_near : d < 40 → h ≡ d
    is_near l = omega arith

pub power_lt : (h : ℕ) → h ≤ 40 → 2 ^ h < 2 ^ 41
power_lt h l = lt_of_le_of_lt (pow_mono {i = h} {j = 40} l) (lit< tt)

pub one_shift : (h : ℕ) → h ≤ 40 → 1 * 2 ^ h % 2 ^ 64 ≡ 2 ^ h
one_shift h l = ap (λ (x : ℕ). x % 2 ^ 64) (one-mul (2 ^ h)) ∙ mod-eq_of_lt (lt_of_lt_of_le (power_lt h l) (lit≤ tt))

-- ---- what is added before a cut
pub twice_less : (h : ℕ) → 1 ≤ h → 2 ^ h ≡ 2 ^ (h - 1) * 2
twice_less h l =
    let u : suc (h - 1) ≡ h = omega arith in
    ap (λ (x : ℕ). 2 ^ x) (sym u) ∙ pow-suc 2 (h - 1)

pub cut_le : (w : Way) (s : Bool) (m b : ℕ) → 1 ≤ b → before_cut w s m b ≤ b
cut_le Zero s m b l = omega arith
cut_le Down true m b l = omega arith
cut_le Down false m b l = omega arith
cut_le Near s m b l = omega (arith, mod-lt (m / b) (pow_pos 1))

pub size_sum : (w : Way) (s : Bool) (m h : ℕ) → 1 ≤ h → (m + before_cut w s m (2 ^ h)) / 2 ^ h ≡ whole_size w s m (2 ^ h)
size_sum Zero s m h l = ap (λ (x : ℕ). x / 2 ^ h) (add-zero m)
size_sum Down true m h l = refl
size_sum Down false m h l = ap (λ (x : ℕ). x / 2 ^ h) (add-zero m)
size_sum Near s m h l = near_sum m (2 ^ h) (2 ^ h / 2) (omega (arith, twice_less h l)) (omega (arith, twice_less h l, pow_pos (h - 1)))

-- ---- how large the whole number is
pub size_le : (w : Way) (s : Bool) (m d : ℕ) → m < 2 ^ 24 → whole_size w s m (2 ^ d) ≤ 2 ^ 24
size_le w s m d h = go w s
  where
    times : m ≤ m * 2 ^ d
    times = le_trans (le_of_eq (sym (mul-one m))) (mul-le-mul_left m (pow_pos d))

    over : m * 1 ≤ 2 ^ 24 * 2 ^ d
    over = le_trans (le_of_eq (mul-one m)) (le_trans (le_of_lt h) (mul-le-mul_left (2 ^ 24) (pow_pos d)))

    cut : m / 2 ^ d ≤ 2 ^ 24
    cut = le_trans (div-le_self m (2 ^ d)) (le_of_lt h)

    go : (w : Way) (s : Bool) → whole_size w s m (2 ^ d) ≤ 2 ^ 24
    go Zero s = cut
    go Down true = le_trans (ceil_le m (2 ^ d) m (pow_pos d) times) (le_of_lt h)
    go Down false = cut
    go Near s = closest_mono m (2 ^ d) (2 ^ 24) 1 (pow_pos d) (lit< tt) over
