-- The angle's sum and quotient as rounded fractions, and of values of binary32 in units of 2 ^ -149, of which every such value is a whole number. Assumes nothing.
use mathlib.Core.Path.{◌≡◌, refl, sym, ap, ◌∙◌, subst}
use mathlib.Core.Logic.{inl, inr}
use mathlib.Core.Bool.{Bool, true, false, not, cond, true≢false}
use Prim.Native.Nat.{ℕ, ◌+◌, ◌-◌, ◌*◌, ◌^◌, ◌≤◌, ◌<◌, zero-le}
use native.Mathlib.Nat.{le_trans, le_of_eq, le_of_lt, lt_of_le_of_lt, le_of_mul-le-mul_right, zero-mul, mul-one, mul-pos, mul_comm, mul_assoc, mul_right_comm, mul-le-mul_right, eq_of_mul-eq-mul_right}
use native.Mathlib.Omega.{arith}
use borrow.Author.Tests.{lt-ltb}
use lib.IntN.{pos}
use lib.Dec.{T, ltb, ltb→lt, nltb→le, lit<, lit≤}
use lib.Pow.{pow_pos}
use lib.Ieee.{Float, nan, inf, fin, binary32, up, down, lt, le, neg, add, sub, div, sum, round, of_bits, fits}
use lib.Ieee.Fits.{down_pos, round_is}
use lib.Ieee.Exact.{HasValue, units_val, round_exact}
use lib.Ieee.Back.{round_whole}
use lib.Ieee.Bits.{is_true}
use lib.Ieee.Order.{drop, kept, round_mono}
use lib.Ieee.Positive.{num, den}
use lib.Ieee.Scale.{grid, overflow, finite, round_same, round_under, grid_scale, normal_of_fraction}
use Rattle.packing.proofs.Sums.{sum_same}
use Rattle.lists.proofs.Naturals.{le_or_lt}
use Rattle.ieee_laws.proofs.Order.{lt_not_le}
use Rattle.ieee.specs.F32.{abs_of}
use Rattle.ieee.specs.Numbers.{nought}
use Rattle.ieee.proofs.Values.{stored}
use Rattle.hal_reach.specs.Reach.{in_reach, in_angle}
use Rattle.hal_angle.specs.Angle.{sum_of}
use Rattle.hal.proofs.Range.{Within, Exact, round_within}
use Rattle.hal_reach.proofs.Reach.{zero_or, bounded, reach_nan, reach_inf, reach_dx, reach_dy}
use Rattle.hal_angle.proofs.AngleValues.{lt_value, div_signed, null}

-- ---- a fraction N / K rounded: `grid` units
exact : (n : ℕ) → n ≤ 16777216 → Exact binary32 n
exact n h = round_whole binary32 false n h

finite_within : (z : Float) (lo hi : ℕ) → Within lo hi z → T (finite z)
finite_within nan lo hi w = w
finite_within (inf s) lo hi w = w
finite_within (fin s m e) lo hi w = tt

module _ (N K : ℕ) (k : 0 < K) (h : N ≤ 16777216 * K) where
  under : grid binary32 N K < overflow binary32
  under =
      round_under binary32 N K
      (finite_within (round binary32 false N K) 0 16777216 (round_within binary32 0 16777216 N K k (exact 0 (lit≤ tt)) (exact 16777216 (lit≤ tt)) (le_trans (le_of_eq (zero-mul K)) zero-le) h))

  pub rounded_value : (s : Bool) → HasValue (round binary32 s N K) s (grid binary32 N K) (2 ^ 149)
  rounded_value s = subst (λ (z : Float). HasValue z s (grid binary32 N K) (2 ^ 149)) (sym (round_is binary32 s N K)) (units_val binary32 s (kept 24 (N * 2 ^ 149) K) (drop 24 (N * 2 ^ 149) K) under)

  pub rounded_above : lt nought (round binary32 false N K) ≡ ltb 0 (grid binary32 N K)
  unfolding of_bits
  rounded_above =
      lt_value (fin false 0 (pos 0)) (round binary32 false N K) 0 1 (grid binary32 N K) (2 ^ 149) (lit< tt) (pow_pos 149) (refl, refl) (rounded_value false)
      ∙ ap (λ (z : ℕ). ltb z (grid binary32 N K * 1)) (zero-mul (2 ^ 149)) ∙ ap (ltb 0) (mul-one (grid binary32 N K))

-- the quotient of two of them goes by those numbers of units
pub rounded_over : (s : Bool) (N M K : ℕ) → 0 < K → N ≤ 16777216 * K → M ≤ 16777216 * K → 0 < grid binary32 M K → div binary32 (round binary32 s N K) (round binary32 false M K) ≡ round binary32 s (grid binary32 N K) (grid binary32 M K)
rounded_over s N M K k n m p =
    let g = grid binary32 N K in
    let h = grid binary32 M K in
    div_signed binary32 (round binary32 s N K) (round binary32 false M K) s g (2 ^ 149) h (2 ^ 149) (pow_pos 149) (pow_pos 149) p (rounded_value N K k n s) (rounded_value M K k m false)
    ∙ round_same binary32 s (g * 2 ^ 149) (h * 2 ^ 149) g h (mul-pos p (pow_pos 149)) p (mul_assoc g (2 ^ 149) h ∙ ap (λ (z : ℕ). g * z) (mul_comm (2 ^ 149) h))

-- ---- sum and difference of two values in units
sum_units : (x y : Float) (s t : Bool) (R P : ℕ) → HasValue x s R (2 ^ 149) → HasValue y t P (2 ^ 149) → add binary32 x y ≡ sum binary32 s R t P (2 ^ 149)
unfolding add
sum_units nan y s t R P X Y = absurd X
sum_units (inf u) y s t R P X Y = absurd X
sum_units (fin u n d) nan s t R P X Y = absurd Y
sum_units (fin u n d) (inf v) s t R P X Y = absurd Y
sum_units (fin u n d) (fin v m e) s t R P X Y =
    ap (λ (z : Bool). sum binary32 z (n * up d * down e) v (m * up e * down d) (down d * down e)) X.0
    ∙ ap (λ (z : Bool). sum binary32 s (n * up d * down e) z (m * up e * down d) (down d * down e)) Y.0
    ∙ sum_same binary32 s (n * up d * down e) t (m * up e * down d) (down d * down e) R P (2 ^ 149) (mul-pos (down_pos d) (down_pos e)) (pow_pos 149)
    (mul_right_comm (n * up d) (down e) (2 ^ 149) ∙ ap (λ (z : ℕ). z * down e) X.1 ∙ mul_assoc R (down d) (down e))
    (mul_right_comm (m * up e) (down d) (2 ^ 149) ∙ ap (λ (z : ℕ). z * down d) Y.1 ∙ mul_assoc P (down e) (down d) ∙ ap (λ (z : ℕ). P * z) (mul_comm (down e) (down d)))

neg_value : (y : Float) (P c : ℕ) → HasValue y false P c → HasValue (neg y) true P c
unfolding neg
neg_value nan P c h = absurd h
neg_value (inf t) P c h = absurd h
neg_value (fin t m e) P c h = (ap not h.0, h.1)

-- ±(R - P) is the one of the two differences that is not cut to 0
abbrev pub apart : ℕ → ℕ → ℕ
apart R P = R - P + (P - R)

difference : (R P K : ℕ) → sum binary32 false R true P K ≡ round binary32 (ltb R P) (apart R P) K
unfolding sum
difference R P K = go (ltb R P) (ltb→lt R P) (nltb→le R P)
  where
    more : R < P → P - R ≡ apart R P
    more l = omega arith

    less : P ≤ R → R - P ≡ apart R P
    less l = omega arith

    go : (t : Bool) → (T t → R < P) → (T (not t) → P ≤ R) → cond t (round binary32 true (P - R) K) (round binary32 false (R - P) K) ≡ round binary32 t (apart R P) K
    go true f g = ap (λ (z : ℕ). round binary32 true z K) (more (f tt))
    go false f g = ap (λ (z : ℕ). round binary32 false z K) (less (g tt))

sub_is : (x y : Float) → sub binary32 x y ≡ add binary32 x (neg y)
unfolding sub
sub_is x y = refl

total : (R P K : ℕ) → sum binary32 false R false P K ≡ round binary32 false (R + P) K
unfolding sum
total R P K = refl

module _ (x y : Float) (R P : ℕ) (X : HasValue x false R (2 ^ 149)) (Y : HasValue y false P (2 ^ 149)) where
  pub add_units : add binary32 x y ≡ round binary32 false (R + P) (2 ^ 149)
  add_units = sum_units x y false false R P X Y ∙ total R P (2 ^ 149)

  pub sub_units : sub binary32 x y ≡ round binary32 (ltb R P) (apart R P) (2 ^ 149)
  sub_units = sub_is x y ∙ sum_units x (neg y) false true R P X (neg_value y P (2 ^ 149) Y) ∙ difference R P (2 ^ 149)

-- ---- whole units: up to 24 digits are kept as they are
abbrev pub near : ℕ → ℕ
near a = grid binary32 a (2 ^ 149)

same_units : (x : Float) (s : Bool) (a b : ℕ) → HasValue x s a (2 ^ 149) → HasValue x s b (2 ^ 149) → a ≡ b
same_units nan s a b h k = absurd h
same_units (inf t) s a b h k = absurd h
same_units (fin t m e) s a b h k = eq_of_mul-eq-mul_right (down e) (down_pos e) a b (sym h.1 ∙ k.1)

few_le : (a : ℕ) → a < 16777216 → a ≤ 16777216 * 2 ^ 149
few_le a h = le_trans (le_of_lt h) (lit≤ tt)

near_few : (a : ℕ) → a < 16777216 → near a ≡ a
near_few a h =
    same_units (round binary32 false a (2 ^ 149)) false (near a) a (rounded_value a (2 ^ 149) (pow_pos 149) (few_le a h) false)
    (round_exact binary32 false a (2 ^ 149) a 0 (pow_pos 149) h (lt_of_le_of_lt (le_trans (le_of_eq (mul-one a)) (le_of_lt h)) (lit< tt)) (ap (λ (z : ℕ). z * 2 ^ 149) (sym (mul-one a))))

pub near_double : (a : ℕ) → near (a * 2) ≡ near a * 2
near_double a = elim (le_or_lt 8388608 a) [
  | inl l ↦ grid_scale binary32 a (2 ^ 149) 1 (pow_pos 149) (normal_of_fraction binary32 a (2 ^ 149) (pow_pos 149) (mul-le-mul_right (2 ^ 149) l))
  | inr l ↦ near_few (a * 2) (omega arith) ∙ ap (λ (z : ℕ). z * 2) (sym (near_few a (omega arith)))
]

-- nothing but 0 is rounded to 0
pub near_some : (a : ℕ) → a ≤ 16777216 * 2 ^ 149 → 0 < a → 0 < near a
near_some a h p = elim (zero_or (near a)) [ inl z ↦ absurd (no z) | inr q ↦ q ]
  where
    one_is : near 1 ≡ 1
    one_is = near_few 1 (lit< tt)

    no : near a ≡ 0 → ⊥
    no z =
        lt_not_le (round binary32 false a (2 ^ 149)) (round binary32 false 1 (2 ^ 149))
        (lt_value (round binary32 false a (2 ^ 149)) (round binary32 false 1 (2 ^ 149)) (near a) (2 ^ 149) (near 1) (2 ^ 149) (pow_pos 149) (pow_pos 149) (rounded_value a (2 ^ 149) (pow_pos 149) h false) (rounded_value 1 (2 ^ 149) (pow_pos 149) (lit≤ tt) false)
        ∙ ap (λ (k : ℕ). ltb (k * 2 ^ 149) (near 1 * 2 ^ 149)) z ∙ ap (λ (k : ℕ). ltb (0 * 2 ^ 149) (k * 2 ^ 149)) one_is ∙ lt-ltb (0 * 2 ^ 149) (1 * 2 ^ 149) (lit< tt))
        (is_true (le (round binary32 false 1 (2 ^ 149)) (round binary32 false a (2 ^ 149))) (round_mono binary32 1 (2 ^ 149) a (2 ^ 149) (pow_pos 149) (pow_pos 149) (mul-le-mul_right (2 ^ 149) p)))

-- ---- the quotient in units
pub ahead_units : (x y : Float) (R P : ℕ) → R + P ≤ 16777216 * 2 ^ 149 → HasValue x false R (2 ^ 149) → HasValue y false P (2 ^ 149) → 0 < near (R + P) → div binary32 (sub binary32 x y) (add binary32 x y) ≡ round binary32 (ltb R P) (near (apart R P)) (near (R + P))
ahead_units x y R P h X Y p =
    ap (λ (z : Float). div binary32 z (add binary32 x y)) (sub_units x y R P X Y)
    ∙ ap (div binary32 (round binary32 (ltb R P) (apart R P) (2 ^ 149))) (add_units x y R P X Y)
    ∙ rounded_over (ltb R P) (apart R P) (R + P) (2 ^ 149) (pow_pos 149) (le_trans (apart_le R P) h) h p
  where
    apart_le : (R P : ℕ) → apart R P ≤ R + P
    apart_le R P = omega arith

-- ---- dx and dy in units
pub record Whole (x : Float) : Type 0 where
  pub units : ℕ
  pub value : HasValue (abs_of x) false units (2 ^ 149)
  pub most : units ≤ 2097152 * 2 ^ 149
  -- as the fraction that x is
  pub size : num x * 2 ^ 149 ≡ units * den x

most_of : (u a d L : ℕ) → 0 < d → a * L ≡ u * d → a ≤ 2097152 * d → u ≤ 2097152 * L
most_of u a d L D e h = le_of_mul-le-mul_right (le_trans (le_of_eq (sym e)) (le_trans (mul-le-mul_right L h) (le_of_eq (mul_right_comm 2097152 d L)))) D

pub whole_of : (x : Float) → T (fits binary32 x) → T (in_reach (abs_of x)) → Whole x
whole_of nan f t = absurd (reach_nan t)
whole_of (inf s) f t = absurd (reach_inf s t)
whole_of (fin s m e) f t =
    let w = stored binary32 s m e f in
    record {
      units = w.c * 2 ^ w.k;
      value = unfold abs_of in (refl, w.size);
      most = most_of (w.c * 2 ^ w.k) (m * up e) (down e) (2 ^ 149) (down_pos e) w.size (bounded s m e t);
      size = w.size;
    }

pub both_most : (P R Q : ℕ) → P ≤ 2097152 * Q → R ≤ 2097152 * Q → R + P ≤ 16777216 * Q
both_most P R Q h k = omega arith

-- the test of the sum, in units
pub sum_test : (x y : Float) (R P : ℕ) → R + P ≤ 16777216 * 2 ^ 149 → HasValue x false R (2 ^ 149) → HasValue y false P (2 ^ 149) → lt nought (add binary32 x y) ≡ ltb 0 (near (R + P))
sum_test x y R P h X Y = ap (lt nought) (add_units x y R P X Y) ∙ rounded_above (R + P) (2 ^ 149) (pow_pos 149) h

-- the sum is above 0 but for (0, 0)
pub level_none : (dx dy : Float) → T (fits binary32 dx) → T (fits binary32 dy) → T (in_angle dx dy) → lt nought (sum_of dx dy) ≡ false → (num dx ≡ 0) × (num dy ≡ 0)
level_none dx dy fx fy h e =
    let x = whole_of dx fx (reach_dx dx dy h) in
    let y = whole_of dy fy (reach_dy dx dy h) in
    let m = both_most x.units y.units (2 ^ 149) x.most y.most in
    let n : y.units + x.units ≡ 0 = elim (zero_or (y.units + x.units)) [
      | inl z ↦ z
      | inr p ↦ absurd (true≢false (sym (lt-ltb 0 (near (y.units + x.units)) (near_some (y.units + x.units) m p)) ∙ sym (sum_test (abs_of dy) (abs_of dx) y.units x.units m y.value x.value) ∙ e))
    ] in
    (none_of_units dx x.units x.size (first y.units x.units n), none_of_units dy y.units y.size (second y.units x.units n))
  where
    none_of_units : (x : Float) (u : ℕ) → num x * 2 ^ 149 ≡ u * den x → u ≡ 0 → num x ≡ 0
    none_of_units x u e z = null (num x) (2 ^ 149) (pow_pos 149) (e ∙ ap (λ (k : ℕ). k * den x) z ∙ zero-mul (den x))

    first : (a b : ℕ) → a + b ≡ 0 → b ≡ 0
    first a b e = omega arith

    second : (a b : ℕ) → a + b ≡ 0 → a ≡ 0
    second a b e = omega arith
