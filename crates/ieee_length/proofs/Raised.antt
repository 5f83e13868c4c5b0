-- The pattern of the f64 x * x + (y * y), raised, tells the f32 that it rounds to. Assumes nothing.
use Rattle.std.proofs.Common.{◌≡◌, ℕ, suc, ◌+◌, ◌-◌, ◌*◌, ◌/◌, ◌%◌, ◌^◌, ◌<◌, ◌≤◌, Bool, true, false, not, T, leb, sym, refl, ap, ◌∙◌, subst, ap₂, inl, inr, true≢false, le_trans, le_of_eq, lt_of_lt_of_le, lt_of_le_of_lt, mul-le-mul_right, mod-eq_of_lt, mul_assoc, mul_comm, add-mul, mul-lt-mul_of_pos_right, mul-pos, lt_of_not-le, not-le_of_lt, mul_left_comm, arith, lit<, lit≤, pow_pos, pow_mono, pow-add}
use mathlib.Core.Bool.{false≢true}
use lib.Arith.{lt_of_le-ne}
use lib.Ieee.{Float, nan, inf, fin, Format, binary32, binary64, up, down, top, unlike, round, sum, mul, fits, is_nan, to_bits, of_bits}
use lib.Ieee.Bits.{of_bits-to_bits}
use lib.Ieee.Exact.{HasValue}
use lib.Ieee.Fits.{round-fits, mul-fits}
use lib.Ieee.Scale.{finite, grid, round_val}
use Rattle.lists.proofs.Naturals.{le_or_lt}
use Rattle.packing.proofs.Fields.{value_normal}
use Rattle.ieee.specs.Fused.{fma}
use Rattle.ieee.specs.Parts.{RoundsOnce, narrow_bits}
use Rattle.ieee_length.specs.Raised.{Raised, raised_bits}
use Rattle.ieee.proofs.Product.{fma_left, fma_last}
use Rattle.ieee.proofs.Nearby.{nearest_down}
use Rattle.ieee.proofs.Rounded.{round_ties}
use Rattle.ieee.proofs.Twice.{one_value, round_value}
use Rattle.ieee.proofs.Patterns.{round_low}
use Rattle.ieee.proofs.Doubled.{Split, split32, add_finite, mul_finite, round_no_nan, value_finite, fma_is, fma_narrow, narrow_le, plain_is}

-- ---- an f64 of a fraction that is finite as an f32 is below 2 ^ 128
clash : (R Y d N : ℕ) → Y < R → (R + Y) * d ≤ 2 * N → N < Y * d → ⊥
clash R Y d N h k l =
    let a : (Y + Y) * d ≤ (R + Y) * d = mul-le-mul_right d (omega arith) in
    let b : (Y + Y) * d ≡ Y * d + Y * d = add-mul Y Y d in
    omega arith

pow_lt_back : (a b : ℕ) → 2 ^ a < 2 ^ b → a < b
pow_lt_back a b h = lt_of_not-le (λ (g : b ≤ a). not-le_of_lt h (pow_mono g))

module _ (n d : ℕ) (D : 0 < d) (f : finite (round binary32 false n d) ≡ true) where
  abbrev R : ℕ
  R = grid binary64 n d

  abbrev Y : ℕ
  Y = (2 ^ 25 - 1) * 2 ^ 1177

  -- from 2 ^ 127 * (2 - 2 ^ -24) on the f32 is an infinity
  within : n * 2 ^ 24 < 2 ^ 127 * (2 ^ 25 - 1) * d
  within = elim (le_or_lt (2 ^ 127 * (2 ^ 25 - 1) * d) (n * 2 ^ 24)) [
    | inl g ↦ absurd (false≢true (ap finite (sym ((round_ties binary32 false n d D).beyond g)) ∙ f))
    | inr g ↦ g
  ]

  under : n * 2 ^ 1074 < Y * d
  under =
      lt_of_le_of_lt (le_of_eq (ap (λ (z : ℕ). n * z) (pow-add 2 24 1050) ∙ sym (mul_assoc n (2 ^ 24) (2 ^ 1050))))
      (lt_of_lt_of_le (mul-lt-mul_of_pos_right within (pow_pos 1050))
      (le_of_eq (regroup (2 ^ 127) (2 ^ 25 - 1) d (2 ^ 1050) ∙ ap (λ (z : ℕ). (2 ^ 25 - 1) * z * d) (sym (pow-add 2 127 1050)))))
    where
      regroup : (p q d l : ℕ) → p * q * d * l ≡ q * (p * l) * d
      regroup p q d l = simp (mul_assoc, mul_comm, mul_left_comm)

  rounded_le : R ≤ Y
  rounded_le = elim (le_or_lt R Y) [
    | inl g ↦ g
    | inr g ↦ absurd (clash R Y d (n * 2 ^ 1074) g (nearest_down 53 (n * 2 ^ 1074) d (lit< tt) D (2 ^ 25 - 1) 1177 (lit< tt) g) under)
  ]

  abbrev v : Float
  v = round binary64 false n d

  value : HasValue v false R (2 ^ 1074)
  value = round_val binary64 n d (lt_of_le_of_lt rounded_le (lit< tt))

  abbrev N : ℕ
  N = to_bits binary64 v

  pub top_bits : N < 5183643171103440896
  top_bits = elim (le_or_lt (N % 2 ^ 63 / 2 ^ 52) 0) [
    | inl z ↦ omega (arith, round_low binary64 n d)
    | inr z ↦
        (let x = N % 2 ^ 63 / 2 ^ 52 - 1 in
        let is : N % 2 ^ 63 / 2 ^ 52 ≡ suc x = omega arith in
        let w = value_normal binary64 v (round-fits binary64 false n d) (value_finite v false R (2 ^ 1074) value) x is in
        let e : (2 ^ 52 + N % 2 ^ 52) * 2 ^ x ≡ R = (one_value v (leb (top binary64) N) false ((2 ^ 52 + N % 2 ^ 52) * 2 ^ x) R (2 ^ 1074) w value).1 in
        let a : 2 ^ 52 * 2 ^ x ≤ (2 ^ 52 + N % 2 ^ 52) * 2 ^ x = mul-le-mul_right (2 ^ x) (omega arith) in
        let b : 2 ^ (52 + x) < 2 ^ 1202 = lt_of_le_of_lt (le_trans (le_of_eq (pow-add 2 52 x)) (le_trans a (le_trans (le_of_eq e) rounded_le))) (lit< tt) in
        omega (arith, pow_lt_back (52 + x) 1202 b, round_low binary64 n d))
  ]

-- ---- what a finite result tells of the operands
all_finite : (x q : Float) → finite (fma binary32 x x q) ≡ true → (finite x ≡ true) × (finite q ≡ true)
all_finite x q h = go (finite x) refl (finite q) refl
  where
    go : (b : Bool) → finite x ≡ b → (d : Bool) → finite q ≡ d → (finite x ≡ true) × (finite q ≡ true)
    go true e true g = (e, g)
    go true e false g = (e, ap finite (fma_last binary32 x x q e e g) ∙ h)
    go false e d g =
        let p = add_finite binary32 (mul binary32 x x) q (ap finite (fma_left binary32 x x q e) ∙ h) in
        ((mul_finite binary32 x x p.0).0, p.1)

-- ---- a square has no sign
alike : (s : Bool) → unlike s s ≡ false
alike true = refl
alike false = refl

square_plain : (y : Float) (s : Bool) (a : ℕ) → HasValue (mul binary32 y y) s a (2 ^ 149) → s ≡ false
unfolding mul
square_plain nan s a v = absurd v
square_plain (inf t) s a v = absurd v
square_plain (fin t m e) s a v = sym (round_value binary32 (unlike t t) (m * up e * (m * up e)) (down e * down e) s a v).0 ∙ alike t

sum_plain : (f : Format) (a b c : ℕ) → sum f false a false b c ≡ round f false (a + b) c
unfolding sum
sum_plain f a b c = refl

-- ---- the sum's pattern
module _ (x y : Float) (hx : T (fits binary32 x)) (f : finite (fma binary32 x x (mul binary32 y y)) ≡ true) where
  abbrev q : Float
  q = mul binary32 y y

  pub operands : (finite x ≡ true) × (finite x ≡ true) × (finite q ≡ true)
  operands = let a = all_finite x q f in (a.0, a.0, a.1)

  X : Split x
  X = split32 x hx operands.0

  Q : Split q
  Q = split32 q (mul-fits binary32 y y) operands.2

  abbrev n : ℕ
  n = X.m * X.m * 2 ^ (X.x + X.x) + Q.m * 2 ^ (Q.x + 149)

  abbrev d : ℕ
  d = 2 ^ 149 * 2 ^ 149

  d_pos : 0 < d
  d_pos = mul-pos (pow_pos 149) (pow_pos 149)

  one_round : (g : Format) → fma g x x q ≡ round g false n d
  one_round g =
      fma_is x x q X X Q g
      ∙ ap₂ (λ (s t : Bool). sum g s (X.m * X.m * 2 ^ (X.x + X.x)) t (Q.m * 2 ^ (Q.x + 149)) d) (alike X.s) (square_plain y Q.s (Q.m * 2 ^ Q.x) Q.parts.value)
      ∙ sum_plain g (X.m * X.m * 2 ^ (X.x + X.x)) (Q.m * 2 ^ (Q.x + 149)) d

  module _ (w : Float) (e : w ≡ fma binary64 x x q) where
    abbrev S : ℕ
    S = to_bits binary64 w

    w_is : w ≡ round binary64 false n d
    w_is = e ∙ one_round binary64

    pub sum_no_nan : T (not (is_nan w))
    sum_no_nan = subst (λ (r : Float). T (not (is_nan r))) (sym w_is) (round_no_nan binary64 false n d)

    pub sum_below : S < 5183643171103440896
    sum_below = subst (λ (r : Float). to_bits binary64 r < 5183643171103440896) (sym w_is) (top_bits n d d_pos (ap finite (sym (one_round binary32)) ∙ f))

    module _ (lo : 4044232465647140864 ≤ S + 4503599895805952) (off : (S + 4503599895805952) % 2 ^ 29 ≡ 0 → ⊥) where
      plain : S % 2 ^ 63 ≡ S
      plain = mod-eq_of_lt (lt_of_lt_of_le sum_below (lit≤ tt))

      once : RoundsOnce S
      once = record { low = omega (arith, plain); high = omega (arith, plain, sum_below); off = λ h. off (omega arith) }

      bits : raised_bits (S + 4503599895805952) ≡ narrow_bits S
      bits = omega (arith, plain)

      is : of_bits binary32 (narrow_bits S) ≡ fma binary32 x x q
      is = plain_is S once (lt_of_lt_of_le sum_below (lit≤ tt)) ∙ fma_narrow S once x x q X X Q (of_bits-to_bits binary64 w (subst (λ (r : Float). T (fits binary64 r)) (sym w_is) (round-fits binary64 false n d)) ∙ e)

      infinite : finite (of_bits binary32 2139095040) ≡ false
      unfolding of_bits
      infinite = refl

      no_infinity : narrow_bits S ≡ 2139095040 → ⊥
      no_infinity h = true≢false (sym f ∙ ap finite (sym is) ∙ ap (λ (b : ℕ). finite (of_bits binary32 b)) h ∙ infinite)

      small : narrow_bits S < 2139095040
      small = lt_of_le-ne (narrow_le S once) no_infinity

      inside : (8388608 ≤ raised_bits (S + 4503599895805952)) × (raised_bits (S + 4503599895805952) < 2139095040)
      inside = (omega arith, lt_of_le_of_lt (le_of_eq bits) small)

    pub raised : Raised (fma binary32 x x q) (S + 4503599895805952)
    raised = record { normal = λ lo off. inside lo off; right = λ lo off. ap (of_bits binary32) (bits lo off) ∙ is lo off }
