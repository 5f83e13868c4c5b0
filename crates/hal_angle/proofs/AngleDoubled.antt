-- The angle keeps its bits when dx and dy are both doubled. Assumes nothing.
use mathlib.Core.Path.{◌≡◌, refl, sym, ap, ◌∙◌, subst}
use mathlib.Core.Bool.{Bool, true, false, not, ◌&&◌}
use borrow.Author.Tests.{ltb-true}
use Prim.Native.Nat.{ℕ, zero, suc, ◌+◌, ◌-◌, ◌*◌, ◌%◌, ◌^◌, ◌≤◌, ◌<◌}
use native.Mathlib.Nat.{le_trans, le_of_eq, lt_of_le_of_lt, not-le_of_lt, mul-one, one-mul, mul-pos, mul_comm, mul_assoc, mul_left_comm, mul_right_comm, mul-le-mul_right, le_of_mul-le-mul_right, eq_of_mul-eq-mul_right}
use native.Mathlib.Omega.{arith}
use lib.IntN.{ℤ, pos, negsuc}
use lib.Dec.{T, ltb, leb, eqb, ltb→lt, leb→le, nleb→lt, eqb→eq, lit<, lit≤}
use lib.Pow.{pow_pos, pow-add, pow-lt}
use lib.Ieee.{Float, nan, inf, fin, binary32, up, down, lt, add, sub, div, round, fits}
use lib.Ieee.Exact.{HasValue, round_exact}
use lib.Ieee.Fits.{down_pos, and_l, and_r}
use lib.Ieee.Scale.{round_same}
use lib.Ieee.Positive.{num, den, den_pos}
use Rattle.ieee.specs.F32.{abs_of}
use Rattle.ieee.specs.Numbers.{nought}
use Rattle.hal_reach.specs.Reach.{in_reach, in_angle}
use Rattle.hal_angle.specs.Angle.{sum_of, ahead_of, quarter_of, direction_of, angle_of}
use Rattle.hal_angle.specs.Rules.{double}
use Rattle.hal_angle.proofs.AngleLaws.{angle_level, angle_direction}
use Rattle.hal_reach.proofs.Reach.{bounded, reach_nan, reach_inf, reach_dx, reach_dy}
use Rattle.hal_angle.proofs.AngleValues.{less_same, sign_value, sign_of}
use Rattle.hal_angle.proofs.AngleUnits.{near, apart, near_double, sum_test, ahead_units, Whole, whole_of, both_most}

-- ---- a value doubled is exact
-- q * 2 ^ j units of 2 ^ -149, up to 2 ^ 32
exact_of : (s : Bool) (a d q j : ℕ) → 0 < d → q < 2 ^ 24 → a ≤ 4294967296 * d → a * 2 ^ 149 ≡ q * 2 ^ j * d → HasValue (round binary32 s a d) s a d
exact_of s a d q j D small top e =
    let p : q * 2 ^ j * d ≤ 4294967296 * 2 ^ 149 * d = le_trans (le_of_eq (sym e)) (le_trans (mul-le-mul_right (2 ^ 149) top) (le_of_eq (mul_right_comm 4294967296 d (2 ^ 149)))) in
    round_exact binary32 s a d q j D small (lt_of_le_of_lt (le_of_mul-le-mul_right p D) (lit< tt)) e

up_units : (m k t : ℕ) → m * 2 ^ k * 2 ^ t * 2 ^ 149 ≡ m * 2 ^ (k + (t + 149)) * 1
up_units m k t =
    mul_assoc (m * 2 ^ k) (2 ^ t) (2 ^ 149)
    ∙ mul_assoc m (2 ^ k) (2 ^ t * 2 ^ 149)
    ∙ ap (λ (z : ℕ). m * (2 ^ k * z)) (sym (pow-add 2 t 149))
    ∙ ap (λ (z : ℕ). m * z) (sym (pow-add 2 k (t + 149)))
    ∙ sym (mul-one (m * 2 ^ (k + (t + 149))))

down_units : (m k t : ℕ) → suc k ≤ 149 → m * 1 * 2 ^ t * 2 ^ 149 ≡ m * 2 ^ (149 - suc k + t) * 2 ^ suc k
down_units m k t h =
    let r = 149 - suc k in
    let b : r + suc k ≡ 149 = omega arith in
    let p : 2 ^ 149 ≡ 2 ^ r * 2 ^ suc k = ap (λ (z : ℕ). 2 ^ z) (sym b) ∙ pow-add 2 r (suc k) in
    let q : 2 ^ t * 2 ^ r ≡ 2 ^ (r + t) = mul_comm (2 ^ t) (2 ^ r) ∙ sym (pow-add 2 r t) in
    ap (λ (z : ℕ). z * 2 ^ t * 2 ^ 149) (mul-one m)
    ∙ ap (λ (z : ℕ). m * 2 ^ t * z) p
    ∙ sym (mul_assoc (m * 2 ^ t) (2 ^ r) (2 ^ suc k))
    ∙ ap (λ (z : ℕ). z * 2 ^ suc k) (mul_assoc m (2 ^ t) (2 ^ r) ∙ ap (λ (z : ℕ). m * z) q)

-- a value times 2 ^ t is exact, up to 2 ^ 32
pub times_power : (s : Bool) (m : ℕ) (e : ℤ) (t : ℕ) → m < 2 ^ 24 → down e ≤ 2 ^ 149 → m * up e * 2 ^ t ≤ 4294967296 * down e → HasValue (round binary32 s (m * up e * 2 ^ t) (down e)) s (m * up e * 2 ^ t) (down e)
times_power s m (pos k) t small deep top = exact_of s (m * 2 ^ k * 2 ^ t) 1 m (k + (t + 149)) (pow_pos 0) small top (up_units m k t)
times_power s m (negsuc k) t small deep top =
    exact_of s (m * 1 * 2 ^ t) (2 ^ suc k) m (149 - suc k + t) (pow_pos (suc k)) small top (down_units m k t (exponent_le (suc k) 149 deep))
  where
    exponent_le : (a b : ℕ) → 2 ^ a ≤ 2 ^ b → a ≤ b
    exponent_le a b h = go (leb a b) (leb→le a b) (nleb→lt a b)
      where
        go : (t : Bool) → (T t → a ≤ b) → (T (not t) → b < a) → a ≤ b
        go true f g = f tt
        go false f g = absurd (not-le_of_lt (pow-lt (g tt)) h)

-- what `fits` says of a value
pub fits_parts : (s : Bool) (m : ℕ) (e : ℤ) → T (fits binary32 (fin s m e)) → (m < 2 ^ 24) × (down e ≤ 2 ^ 149)
unfolding fits
fits_parts s zero (pos k) t = (lit< tt, lit≤ tt)
fits_parts s zero (negsuc k) t = (lit< tt, (let p : 1 * 2 ^ suc k ≡ 1 = eqb→eq (1 * 2 ^ suc k) 1 t in le_trans (le_of_eq (sym (one-mul (2 ^ suc k)) ∙ p)) (lit≤ tt)))
fits_parts s (suc m) e t =
    let a = eqb (suc m % 2) 1 in
    let b = ltb (suc m) (2 ^ 24) in
    let c = leb (down e) (2 ^ 149) in
    let d = ltb (suc m * up e) (2 ^ 128 * down e) in
    (ltb→lt (suc m) (2 ^ 24) (and_r a b (and_l (a && b) c (and_l (a && b && c) d t))), leb→le (down e) (2 ^ 149) (and_r (a && b) c (and_l (a && b && c) d t)))

double_is : (s : Bool) (m : ℕ) (e : ℤ) → double (fin s m e) ≡ round binary32 s (m * up e * down e + m * up e * down e) (down e * down e)
unfolding add
double_is true m e = refl
double_is false m e = refl

regroup : (a d : ℕ) → (a * d + a * d) * d ≡ a * 2 * (d * d)
regroup a d = ap (λ (z : ℕ). z * d) two ∙ mul_assoc (a * 2) d d
  where
    two : a * d + a * d ≡ a * 2 * d
    two = let p : a * 2 * d ≡ a * d * 2 = mul_right_comm a 2 d in omega arith

double_value : (s : Bool) (m : ℕ) (e : ℤ) → T (fits binary32 (fin s m e)) → T (in_reach (abs_of (fin s m e))) → HasValue (double (fin s m e)) s (m * up e * 2) (down e)
double_value s m e f t =
    let b : m * up e ≤ 2097152 * down e = bounded s m e t in
    let p = fits_parts s m e f in
    subst (λ (z : Float). HasValue z s (m * up e * 2) (down e))
    (sym (double_is s m e ∙ round_same binary32 s (m * up e * down e + m * up e * down e) (down e * down e) (m * up e * 2) (down e) (mul-pos (down_pos e) (down_pos e)) (down_pos e) (regroup (m * up e) (down e))))
    (times_power s m e 1 p.0 p.1 (omega arith))

-- ---- the sign and the size of x + x
record Doubles (x : Float) : Type 0 where
  pub sign : lt (double x) nought ≡ lt x nought
  pub size : HasValue (abs_of (double x)) false (num x * 2) (den x)

abs_value : (x : Float) (s : Bool) (a c : ℕ) → HasValue x s a c → HasValue (abs_of x) false a c
unfolding abs_of
abs_value nan s a c h = absurd h
abs_value (inf t) s a c h = absurd h
abs_value (fin t m e) s a c h = (refl, h.1)

doubles : (x : Float) → T (fits binary32 x) → T (in_reach (abs_of x)) → Doubles x
doubles nan f t = absurd (reach_nan t)
doubles (inf s) f t = absurd (reach_inf s t)
doubles (fin s m e) f t =
    let v = double_value s m e f t in
    record {
      sign = sign_value (double (fin s m e)) s (m * up e * 2) (down e) (down_pos e) v ∙ ap (λ (z : Bool). s && z) (less_same 0 (m * up e * 2) 0 (m * up e) (λ h. omega arith) (λ h. omega arith)) ∙ sym (sign_of s m e);
      size = abs_value (double (fin s m e)) s (m * up e * 2) (down e) v;
    }

-- in units
twice_units : (y : Float) (a c u L : ℕ) → 0 < c → HasValue y false (a * 2) c → a * L ≡ u * c → HasValue y false (u * 2) L
twice_units nan a c u L C h e = absurd h
twice_units (inf t) a c u L C h e = absurd h
twice_units (fin t n d) a c u L C h e = (
  h.0,
  eq_of_mul-eq-mul_right c C (n * up d * L) (u * 2 * down d) (mul_right_comm (n * up d) L c ∙ ap (λ (z : ℕ). z * L) h.1 ∙ swap a (down d) L ∙ ap (λ (z : ℕ). z * 2 * down d) e ∙ back u c (down d)),
)
  where
    swap : (a x L : ℕ) → a * 2 * x * L ≡ a * L * 2 * x
    swap a x L = simp (mul_assoc, mul_comm, mul_left_comm)

    back : (u c x : ℕ) → u * c * 2 * x ≡ u * 2 * x * c
    back u c x = simp (mul_assoc, mul_comm, mul_left_comm)

-- ---- R and P units, and twice as many: sum and difference are rounded to twice as many, and so the quotient is the same
module _ (x y x' y' : Float) (R P : ℕ) (most : R + P ≤ 16777216 * 2 ^ 149) (most2 : R * 2 + P * 2 ≤ 16777216 * 2 ^ 149)
    (X : HasValue x false R (2 ^ 149)) (Y : HasValue y false P (2 ^ 149)) (X' : HasValue x' false (R * 2) (2 ^ 149)) (Y' : HasValue y' false (P * 2) (2 ^ 149)) where
  near_sum : near (R * 2 + P * 2) ≡ near (R + P) * 2
  near_sum = ap near (both R P) ∙ near_double (R + P)
    where
      both : (R P : ℕ) → R * 2 + P * 2 ≡ (R + P) * 2
      both R P = omega arith

  near_apart : near (apart (R * 2) (P * 2)) ≡ near (apart R P) * 2
  near_apart = ap near (both R P) ∙ near_double (apart R P)
    where
      both : (R P : ℕ) → apart (R * 2) (P * 2) ≡ apart R P * 2
      both R P = omega arith

  sum_double : lt nought (add binary32 x' y') ≡ lt nought (add binary32 x y)
  sum_double =
      sum_test x' y' (R * 2) (P * 2) most2 X' Y' ∙ ap (ltb 0) near_sum
      ∙ less_same 0 (near (R + P) * 2) 0 (near (R + P)) (λ h. half (near (R + P)) h) (λ h. whole (near (R + P)) h) ∙ sym (sum_test x y R P most X Y)
    where
      half : (a : ℕ) → 0 < a * 2 → 0 < a
      half a h = omega arith

      whole : (a : ℕ) → 0 < a → 0 < a * 2
      whole a h = omega arith

  quotient_double : lt nought (add binary32 x y) ≡ true → div binary32 (sub binary32 x' y') (add binary32 x' y') ≡ div binary32 (sub binary32 x y) (add binary32 x y)
  quotient_double e =
      let p : 0 < near (R + P) = ltb-true 0 (near (R + P)) (sym (sum_test x y R P most X Y) ∙ e) in
      let p2 : 0 < near (R + P) * 2 = mul-pos p (lit< tt) in
      ahead_units x' y' (R * 2) (P * 2) most2 X' Y' (subst (λ (z : ℕ). 0 < z) (sym near_sum) p2)
      ∙ ap (λ (b : Bool). round binary32 b (near (apart (R * 2) (P * 2))) (near (R * 2 + P * 2))) (less_same (R * 2) (P * 2) R P (λ h. omega arith) (λ h. omega arith))
      ∙ ap (λ (z : ℕ). round binary32 (ltb R P) z (near (R * 2 + P * 2))) near_apart
      ∙ ap (λ (z : ℕ). round binary32 (ltb R P) (near (apart R P) * 2) z) near_sum
      ∙ round_same binary32 (ltb R P) (near (apart R P) * 2) (near (R + P) * 2) (near (apart R P)) (near (R + P)) p2 p (regroup_2 (near (apart R P)) (near (R + P)))
      ∙ sym (ahead_units x y R P most X Y p)
    where
      regroup_2 : (a b : ℕ) → a * 2 * b ≡ a * (b * 2)
      regroup_2 a b = simp (mul_assoc, mul_comm, mul_left_comm)

-- the same bits, where all four lie in the range
pub angle_double : (dx dy : Float) → T (fits binary32 dx) → T (fits binary32 dy) → T (in_angle dx dy) → T (in_angle (double dx) (double dy)) → angle_of (double dx) (double dy) ≡ angle_of dx dy
angle_double dx dy fx fy h h' = go (lt nought (sum_of dx dy)) refl
  where
    x : Doubles dx
    x = doubles dx fx (reach_dx dx dy h)

    y : Doubles dy
    y = doubles dy fy (reach_dy dx dy h)

    u : Whole dx
    u = whole_of dx fx (reach_dx dx dy h)

    v : Whole dy
    v = whole_of dy fy (reach_dy dx dy h)

    most : v.units + u.units ≤ 16777216 * 2 ^ 149
    most = both_most u.units v.units (2 ^ 149) u.most v.most

    most2 : v.units * 2 + u.units * 2 ≤ 16777216 * 2 ^ 149
    most2 = both_twice u.units v.units (2 ^ 149) u.most v.most
      where
        both_twice : (P R Q : ℕ) → P ≤ 2097152 * Q → R ≤ 2097152 * Q → R * 2 + P * 2 ≤ 16777216 * Q
        both_twice P R Q h k = omega arith

    X : HasValue (abs_of (double dy)) false (v.units * 2) (2 ^ 149)
    X = twice_units (abs_of (double dy)) (num dy) (den dy) v.units (2 ^ 149) (den_pos dy) y.size v.size

    Y : HasValue (abs_of (double dx)) false (u.units * 2) (2 ^ 149)
    Y = twice_units (abs_of (double dx)) (num dx) (den dx) u.units (2 ^ 149) (den_pos dx) x.size u.size

    sums : lt nought (sum_of (double dx) (double dy)) ≡ lt nought (sum_of dx dy)
    sums = sum_double (abs_of dy) (abs_of dx) (abs_of (double dy)) (abs_of (double dx)) v.units u.units most most2 v.value u.value X Y

    ahead : lt nought (sum_of dx dy) ≡ true → ahead_of (double dx) (double dy) ≡ ahead_of dx dy
    ahead e = unfold ahead_of in quotient_double (abs_of dy) (abs_of dx) (abs_of (double dy)) (abs_of (double dx)) v.units u.units most most2 v.value u.value X Y e

    go : (t : Bool) → lt nought (sum_of dx dy) ≡ t → angle_of (double dx) (double dy) ≡ angle_of dx dy
    go false e = angle_level (double dx) (double dy) h' (sums ∙ e) ∙ sym (angle_level dx dy h e)
    go true e =
        angle_direction (double dx) (double dy) h' (sums ∙ e)
        ∙ ap (direction_of (quarter_of (lt (double dx) nought) (lt (double dy) nought))) (ahead e)
        ∙ ap (λ (b : Bool). direction_of (quarter_of b (lt (double dy) nought)) (ahead_of dx dy)) x.sign
        ∙ ap (λ (b : Bool). direction_of (quarter_of (lt dx nought) b) (ahead_of dx dy)) y.sign
        ∙ sym (angle_direction dx dy h e)
