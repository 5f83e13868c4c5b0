-- How large a float is, its sign left aside, and what the operations make of that: products and fused sums of numbers of any sign. Assumes nothing.
use Rattle.std.proofs.Common.{◌≡◌, ℕ, ◌+◌, ◌-◌, ◌*◌, ◌^◌, ◌<◌, ◌≤◌, Bool, true, false, cond, ◌&&◌, ltb, pos, negsuc, refl, true≢false, le_of_eq, mul-le-mul_right, mul_assoc, mul_comm, add-mul, mul-le-mul, mul-pos, one-mul, zero-mul, mul-one, arith, ltb-true}
use mathlib.Core.Bool.{beq, false≢true}
use native.Mathlib.Nat.{mul-mul-mul_comm}
use lib.Ieee.{Float, nan, inf, fin, binary32, up, down, unlike, round, sum, neg, add, sub, mul, lt, le}
use lib.Ieee.Exact.{HasValue}
use lib.Ieee.Fits.{down_pos}
use lib.Ieee.Scale.{finite}
use lib.Ieee.Back.{round_whole}
use lib.Ieee.Positive.{through}
use Rattle.ieee.specs.Fused.{fma}
use Rattle.ieee.specs.F32.{abs_of}
use Rattle.ieee_laws.specs.Sign.{turned, Turned, of_nan, of_inf, of_fin}
use Rattle.ieee_laws.proofs.Order.{Leq, le_fin, Marked, endless, ended, round_marked, round_le}
use Rattle.ieee_laws.proofs.Turned.{round_turned}

-- x is finite, and at most a in size
abbrev pub Within : Float → ℕ → Type 0
Within nan a = ⊥
Within (inf s) a = ⊥
Within (fin s m e) a = m * up e ≤ a * down e

pub within_finite : (x : Float) (a : ℕ) → Within x a → finite x ≡ true
within_finite nan a h = absurd h
within_finite (inf s) a h = absurd h
within_finite (fin s m e) a h = refl

-- ---- a rounded fraction that is at most a whole number

of_le : {x : Float} (y : Float) (a : ℕ) → Marked false x → HasValue y false a 1 → le x y ≡ true → Within x a
unfolding le
of_le nan a mk v h = absurd v
of_le (inf t) a mk v h = absurd v
of_le (fin t n d) a endless v h = absurd (false≢true h)
of_le (fin true n d) a (ended {m = m} {e = e}) v h = absurd (true≢false v.0)
of_le (fin false n d) a (ended {m = m} {e = e}) v h =
    let l = (le_fin false m e false n d h).cross in
    let k : m * up e * down d ≤ n * up d * down e = omega (arith, zero-mul (down e), zero-mul (down d)) in
    rw mul-one at (through (m * up e) (n * up d) a (down e) (down d) 1 (down_pos d) k (le_of_eq v.1))

turn_within : {b : Bool} {x y : Float} (a : ℕ) → Turned b x y → Within x a → Within y a
turn_within a of_nan h = h
turn_within a (of_inf e) h = h
turn_within a (of_fin s) h = h

pub round_within : (s : Bool) (n d a : ℕ) → 0 < d → a ≤ 2 ^ 24 → n ≤ a * d → Within (round binary32 s n d) a
round_within s n d a D A h =
    let k : Leq false n d false a 1 = record { cross = omega (arith, mul-one n) } in
    let w = of_le (round binary32 false a 1) a (round_marked binary32 false n d) (round_whole binary32 false a A) (round_le binary32 false n d false a 1 D (omega arith) k) in
    go s w
  where
    go : (s : Bool) → Within (round binary32 false n d) a → Within (round binary32 s n d) a
    go false w = w
    go true w = turn_within {b = true} a (round_turned binary32 false true n d D (turned refl)) w

pub neg_within : (x : Float) (a : ℕ) → Within x a → Within (neg x) a
unfolding neg
neg_within nan a h = h
neg_within (inf s) a h = h
neg_within (fin s m e) a h = h

-- ---- sums

cond_within : (b : Bool) (x y : Float) (a : ℕ) → Within x a → Within y a → Within (cond b x y) a
cond_within true x y a p q = p
cond_within false x y a p q = q

-- n / c at most a, and k / c at most b
sum_within : (s : Bool) (n : ℕ) (t : Bool) (k c a b : ℕ) → 0 < c → a + b ≤ 2 ^ 24 → n ≤ a * c → k ≤ b * c → Within (sum binary32 s n t k c) (a + b)
unfolding sum
sum_within s n t k c a b C A p q =
    let e : (a + b) * c ≡ a * c + b * c = add-mul a b c in
    cond_within (beq s t) _ _ (a + b) (round_within s (n + k) c (a + b) C A (omega arith))
    (cond_within (ltb n k) _ _ (a + b) (round_within t (k - n) c (a + b) C A (omega arith)) (round_within (s && ltb k n) (n - k) c (a + b) C A (omega arith)))

-- m / e at most a: m * d / (e * d) is
scaled : (m e d a : ℕ) → m ≤ a * e → m * d ≤ a * (e * d)
scaled m e d a h = rw (← mul_assoc a e d) (mul-le-mul_right d h)

scaled_left : (m e d a : ℕ) → m ≤ a * e → m * d ≤ a * (d * e)
scaled_left m e d a h = rw (mul_comm d e) (scaled m e d a h)

pub add_within : (x y : Float) (a b : ℕ) → a + b ≤ 2 ^ 24 → Within x a → Within y b → Within (add binary32 x y) (a + b)
unfolding add
add_within nan y a b A p q = absurd p
add_within (inf s) y a b A p q = absurd p
add_within (fin s m e) nan a b A p q = absurd q
add_within (fin s m e) (inf t) a b A p q = absurd q
add_within (fin s m e) (fin t n d) a b A p q =
    sum_within s (m * up e * down d) t (n * up d * down e) (down e * down d) a b (mul-pos (down_pos e) (down_pos d)) A
    (scaled (m * up e) (down e) (down d) a p) (scaled_left (n * up d) (down d) (down e) b q)

pub sub_within : (x y : Float) (a b : ℕ) → a + b ≤ 2 ^ 24 → Within x a → Within y b → Within (sub binary32 x y) (a + b)
unfolding sub
sub_within x y a b A p q = add_within x (neg y) a b A p (neg_within y b q)

-- ---- products

product : (m e n d a b : ℕ) → m ≤ a * e → n ≤ b * d → m * n ≤ a * b * (e * d)
product m e n d a b p q = rw (mul-mul-mul_comm a b e d) (mul-le-mul p q)

pub mul_within : (x y : Float) (a b : ℕ) → a * b ≤ 2 ^ 24 → Within x a → Within y b → Within (mul binary32 x y) (a * b)
unfolding mul
mul_within nan y a b A p q = absurd p
mul_within (inf s) y a b A p q = absurd p
mul_within (fin s m e) nan a b A p q = absurd q
mul_within (fin s m e) (inf t) a b A p q = absurd q
mul_within (fin s m e) (fin t n d) a b A p q =
    round_within (unlike s t) (m * up e * (n * up d)) (down e * down d) (a * b) (mul-pos (down_pos e) (down_pos d)) A (product (m * up e) (down e) (n * up d) (down d) a b p q)

pub fma_within : (x y z : Float) (a b c : ℕ) → a * b + c ≤ 2 ^ 24 → Within x a → Within y b → Within z c → Within (fma binary32 x y z) (a * b + c)
unfolding fma
fma_within nan y z a b c A p q r = absurd p
fma_within (inf s) y z a b c A p q r = absurd p
fma_within (fin s m e) nan z a b c A p q r = absurd q
fma_within (fin s m e) (inf t) z a b c A p q r = absurd q
fma_within (fin s m e) (fin t n d) nan a b c A p q r = absurd r
fma_within (fin s m e) (fin t n d) (inf u) a b c A p q r = absurd r
fma_within (fin s m e) (fin t n d) (fin u o g) a b c A p q r =
    sum_within (unlike s t) (m * up e * (n * up d) * down g) u (o * up g * (down e * down d)) (down e * down d * down g) (a * b) c (mul-pos (mul-pos (down_pos e) (down_pos d)) (down_pos g)) A
    (scaled (m * up e * (n * up d)) (down e * down d) (down g) (a * b) (product (m * up e) (down e) (n * up d) (down d) a b p q))
    (scaled_left (o * up g) (down g) (down e * down d) c r)

-- ---- from tests

-- from -L to L, of a whole L
pub limits_within : (x : Float) (k : ℕ) → le (fin true 1 (pos k)) x ≡ true → le x (fin false 1 (pos k)) ≡ true → Within x (2 ^ k)
unfolding le
limits_within nan k h g = absurd (false≢true g)
limits_within (inf true) k h g = absurd (false≢true h)
limits_within (inf false) k h g = absurd (false≢true g)
limits_within (fin s m e) k h g = signed s h g
  where
    signed : (s : Bool) → le (fin true 1 (pos k)) (fin s m e) ≡ true → le (fin s m e) (fin false 1 (pos k)) ≡ true → m * up e ≤ 2 ^ k * down e
    signed true h g =
        let l = (le_fin true 1 (pos k) true m e h).cross in
        let i : 1 * 2 ^ k * down e ≡ 2 ^ k * down e = rw one-mul in
        omega (arith, zero-mul (down e))
    signed false h g =
        let l = (le_fin false m e false 1 (pos k) g).cross in
        let i : 1 * 2 ^ k * down e ≡ 2 ^ k * down e = rw one-mul in
        omega (arith, zero-mul (down e))

-- below 1 / 2 in size
pub half_within : (x : Float) → lt (abs_of x) (fin false 1 (negsuc 0)) ≡ true → Within x 1
unfolding lt abs_of
half_within nan h = absurd (false≢true h)
half_within (inf s) h = absurd (false≢true h)
half_within (fin s m e) h = let l = ltb-true (m * up e * 2) (1 * 1 * down e) h in omega arith
