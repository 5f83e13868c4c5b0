-- Sums and products of small numbers are small, in binary64: a rounding at most doubles a size. Assumes nothing.
use Rattle.std.proofs.Common.{◌≡◌, ℕ, zero, suc, ◌+◌, ◌-◌, ◌*◌, ◌^◌, ◌<◌, ◌≤◌, Bool, true, false, cond, ◌&&◌, T, eqb, ltb, leb, List, [], ◌∷◌, length, get_or, sym, refl, ap, ◌∙◌, subst, le_trans, le_of_eq, le_of_suc-le-suc, not-suc-le-zero, lt_of_le_of_lt, mul-le-mul_right, mul_assoc, mul_comm, mul-le-mul, mul-le-mul_left, mul-pos, pow-suc, mul_right_comm, le_of_mul-le-mul_right, mul_left_comm, arith, lit<, lit≤, le→leb, leb→le, pow_pos, pow_mono, pow-add, eqb-true}
use mathlib.Core.Bool.{beq, false≢true}
use lib.Pow.{pow-lt}
use lib.Ieee.{Float, nan, inf, fin, binary64, up, down, unlike, round, sum, add, mul, of_bits}
use lib.Ieee.Bits.{is_true}
use lib.Ieee.Exact.{HasValue, units_val}
use lib.Ieee.Fits.{down_pos, round_is}
use lib.Ieee.Order.{drop, kept}
use lib.Ieee.Scale.{finite, grid}
use Rattle.ieee_length.specs.Mild.{pieces, table_size, small, each_mild, all_mild}
use Rattle.ieee.proofs.Nearby.{at_most_twice}

ruleset ac = (mul_assoc, mul_comm, mul_left_comm)

-- `small`, as a fact
abbrev Under : ℕ → Float → Type 0
Under k nan = ⊥
Under k (inf s) = ⊥
Under k (fin s m e) = m * up e ≤ 2 ^ k * down e

under : (k : ℕ) (x : Float) → small k x ≡ true → Under k x
unfolding small
under k nan h = absurd (false≢true h)
under k (inf s) h = absurd (false≢true h)
under k (fin s m e) h = leb→le (m * up e) (2 ^ k * down e) (subst T (sym h) tt)

under_finite : (k : ℕ) (x : Float) → Under k x → finite x ≡ true
under_finite k nan h = absurd h
under_finite k (inf s) h = absurd h
under_finite k (fin s m e) h = refl

wider : (j k : ℕ) (x : Float) → j ≤ k → Under j x → Under k x
wider j k nan l h = h
wider j k (inf s) l h = h
wider j k (fin s m e) l h = le_trans h (mul-le-mul_right (down e) (pow_mono l))

-- of a number's value
pub small_value : (k : ℕ) (x : Float) (s : Bool) (a c : ℕ) → 0 < c → HasValue x s a c → a ≤ 2 ^ k * c → small k x ≡ true
unfolding small
small_value k nan s a c C v h = absurd v
small_value k (inf t) s a c C v h = absurd v
small_value k (fin t m e) s a c C v h =
    is_true (leb (m * up e) (2 ^ k * down e)) (le→leb (m * up e) (2 ^ k * down e)
    (le_of_mul-le-mul_right (le_trans (le_of_eq v.1) (le_trans (mul-le-mul_right (down e) h) (le_of_eq (mul_right_comm (2 ^ k) c (down e))))) C))

-- ---- a rounded fraction
double : (k : ℕ) → 2 * 2 ^ k ≡ 2 ^ suc k
double k = mul_comm 2 (2 ^ k) ∙ sym (pow-suc 2 k)

round_under : (s : Bool) (a c k : ℕ) → 0 < c → k < 1023 → a ≤ 2 ^ k * c → Under (suc k) (round binary64 s a c)
round_under s a c k C K h =
    let L = 2 ^ 1074 in
    let g : grid binary64 a c ≤ 2 ^ suc k * L =
    le_of_mul-le-mul_right
    (le_trans (at_most_twice 53 (a * L) c (lit< tt) C)
    (le_trans (mul-le-mul_left 2 (mul-le-mul_right L h))
    (le_of_eq (regroup (2 ^ k) c L ∙ ap (λ (z : ℕ). z * L * c) (double k)))))
    C in
    let top : grid binary64 a c < 2 ^ 2098 = lt_of_le_of_lt (le_trans g (le_of_eq (sym (pow-add 2 (suc k) 1074)))) (pow-lt {i = suc k + 1074} {j = 2098} (omega arith)) in
    let v : HasValue (round binary64 s a c) s (grid binary64 a c) L = subst (λ (r : Float). HasValue r s (grid binary64 a c) L) (sym (round_is binary64 s a c)) (units_val binary64 s (kept 53 (a * L) c) (drop 53 (a * L) c) top) in
    under (suc k) (round binary64 s a c) (small_value (suc k) (round binary64 s a c) s (grid binary64 a c) L (pow_pos 1074) v g)
  where
    regroup : (p c l : ℕ) → 2 * (p * c * l) ≡ 2 * p * l * c
    regroup p c l = simp ac

cond_under : (k : ℕ) (b : Bool) (x y : Float) → Under k x → Under k y → Under k (cond b x y)
cond_under k true x y h g = h
cond_under k false x y h g = g

sum_under : (s : Bool) (a : ℕ) (t : Bool) (b c k : ℕ) → 0 < c → k < 1022 → a ≤ 2 ^ k * c → b ≤ 2 ^ k * c → Under (suc (suc k)) (sum binary64 s a t b c)
unfolding sum
sum_under s a t b c k C K h g =
    let w : a + b ≤ 2 ^ suc k * c = subst (λ (z : ℕ). a + b ≤ z) (sym (mul_assoc 2 (2 ^ k) c) ∙ ap (λ (z : ℕ). z * c) (double k)) (omega arith) in
    let one : (u : Bool) (n : ℕ) → n ≤ a + b → Under (suc (suc k)) (round binary64 u n c) = λ u n l. round_under u n c (suc k) C (omega arith) (le_trans l w) in
    cond_under (suc (suc k)) (beq s t) _ _ (one s (a + b) (omega arith))
    (cond_under (suc (suc k)) (ltb a b) _ _ (one t (b - a) (omega arith)) (one (s && ltb b a) (a - b) (omega arith)))

-- ---- the operations
add_under : (k : ℕ) (x y : Float) → k < 1022 → Under k x → Under k y → Under (suc (suc k)) (add binary64 x y)
unfolding add
add_under k nan y K h g = absurd h
add_under k (inf s) y K h g = absurd h
add_under k (fin s m e) nan K h g = absurd g
add_under k (fin s m e) (inf t) K h g = absurd g
add_under k (fin s m e) (fin t n d) K h g =
    sum_under s (m * up e * down d) t (n * up d * down e) (down e * down d) k (mul-pos (down_pos e) (down_pos d)) K
    (le_trans (mul-le-mul_right (down d) h) (le_of_eq (mul_assoc (2 ^ k) (down e) (down d))))
    (le_trans (mul-le-mul_right (down e) g) (le_of_eq (simp ac)))

mul_under : (j k : ℕ) (x y : Float) → j + k < 1023 → Under j x → Under k y → Under (suc (j + k)) (mul binary64 x y)
unfolding mul
mul_under j k nan y K h g = absurd h
mul_under j k (inf s) y K h g = absurd h
mul_under j k (fin s m e) nan K h g = absurd g
mul_under j k (fin s m e) (inf t) K h g = absurd g
mul_under j k (fin s m e) (fin t n d) K h g =
    round_under (unlike s t) (m * up e * (n * up d)) (down e * down d) (j + k) (mul-pos (down_pos e) (down_pos d)) K
    (le_trans (mul-le-mul h g) (le_of_eq (regroup (2 ^ j) (down e) (2 ^ k) (down d) ∙ ap (λ (z : ℕ). z * (down e * down d)) (sym (pow-add 2 j k)))))
  where
    regroup : (p c q d : ℕ) → p * c * (q * d) ≡ p * q * (c * d)
    regroup p c q d = simp ac

-- ---- an element of a table
first : (a b : Bool) → (a && b) ≡ true → a ≡ true
first true b e = refl
first false b e = e

second : (a b : Bool) → (a && b) ≡ true → b ≡ true
second true b e = e
second false b e = absurd (false≢true e)

each_at : (l : List Float) (i : ℕ) (z : Float) → each_mild l ≡ true → i < length l → Under 24 (get_or l i z)
unfolding each_mild
each_at [] i z h k = absurd (not-suc-le-zero k)
each_at (x ∷ xs) zero z h k = under 24 x (first (small 24 x) (each_mild xs) h)
each_at (x ∷ xs) (suc i) z h k = each_at xs i z (second (small 24 x) (each_mild xs) h) (le_of_suc-le-suc k)

mild_at : (l : List Float) (i : ℕ) (z : Float) → all_mild l ≡ true → i < table_size → Under 24 (get_or l i z)
unfolding all_mild
mild_at l i z h k =
    each_at l i z (second (eqb (length l) table_size) (each_mild l) h)
    (subst (λ (n : ℕ). i < n) (sym (eqb-true (length l) table_size (first (eqb (length l) table_size) (each_mild l) h))) k)

-- ---- a cubic of a number up to 4, and 2 ^ 52
big : Under 52 (of_bits binary64 4841369599423283200)
unfolding of_bits
big = lit≤ tt

pub cubic_finite : (l : List Float) (i : ℕ) (a z : Float) → all_mild l ≡ true → i < pieces → small 2 a ≡ true
    → finite (add binary64 (add binary64 (get_or l i z) (mul binary64 a (add binary64 (get_or l (64 + i) z) (mul binary64 a (add binary64 (get_or l (128 + i) z) (mul binary64 a (get_or l (192 + i) z))))))) (of_bits binary64 4841369599423283200)) ≡ true
cubic_finite l i a z h k s =
    let A : Under 2 a = under 2 a s in
    let c : (j : ℕ) → j < table_size → Under 24 (get_or l j z) = λ j q. mild_at l j z h q in
    let step : (j p : ℕ) (r : Float) → j < table_size → 24 ≤ suc (2 + p) → p < 1000 → Under p r → Under (suc (suc (suc (2 + p)))) (add binary64 (get_or l j z) (mul binary64 a r)) =
    λ j p r J lo hi u. add_under (suc (2 + p)) (get_or l j z) (mul binary64 a r) (omega arith) (wider 24 (suc (2 + p)) (get_or l j z) lo (c j J)) (mul_under 2 p a r (omega arith) A u) in
    let r3 = get_or l (192 + i) z in
    let r2 = add binary64 (get_or l (128 + i) z) (mul binary64 a r3) in
    let r1 = add binary64 (get_or l (64 + i) z) (mul binary64 a r2) in
    let r0 = add binary64 (get_or l i z) (mul binary64 a r1) in
    let u2 : Under 29 r2 = step (128 + i) 24 r3 (omega arith) (lit≤ tt) (lit< tt) (c (192 + i) (omega arith)) in
    let u1 : Under 34 r1 = step (64 + i) 29 r2 (omega arith) (lit≤ tt) (lit< tt) u2 in
    let u0 : Under 39 r0 = step i 34 r1 (omega arith) (lit≤ tt) (lit< tt) u1 in
    let b = of_bits binary64 4841369599423283200 in
    under_finite 54 (add binary64 r0 b) (add_under 52 r0 b (lit< tt) (wider 39 52 r0 (lit≤ tt) u0) big)
