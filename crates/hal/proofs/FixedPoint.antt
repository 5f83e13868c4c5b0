-- The exponent as a whole number: the range of start + x * rate, and what its pattern says. Assumes nothing.
use mathlib.Core.Path.{◌≡◌, refl, sym, ap, ◌∙◌, subst}
use mathlib.Core.Logic.{inl, inr}
use mathlib.Core.Bool.{Bool, true, false, not, ◌&&◌, ◌||◌, cond}
use Prim.Native.Nat.{ℕ, zero, suc, ◌+◌, ◌-◌, ◌*◌, ◌/◌, ◌%◌, ◌^◌, ◌≤◌, ◌<◌, zero-le, min}
use native.Mathlib.Nat.{suc-mul, le_antisymm, not-le_of_lt, mul-lt-mul_of_pos_right, le_trans, le_of_eq, le_of_lt, zero-mul, mul-one, mul_assoc, mul_right_comm, mul-le-mul_right, mul-pos, div-div-eq-div-mul, div-lt_iff_lt-mul, lt_of_le_of_lt, lt_of_lt_of_le}
use native.Mathlib.Omega.{arith}
use lib.IntN.{ℤ, pos, negsuc}
use lib.Dec.{T, ltb, eqb, ltb→lt, nltb→le, eqb→eq, lit<, lit≤}
use lib.Pow.{pow_pos, pow_mono}
use lib.Ieee.{Float, nan, inf, fin, Format, binary64, prec, emax, low, unlike, up, down, odd, units, size, lt, le, eq, neg, add, sub, mul, round, to_unsigned, to_bits, is_nan, of_bits}
use lib.Ieee.Fits.{and_i, and_l, and_r, down_pos, round_is}
use lib.Ieee.Digits.{size-lt, size-le}
use lib.Ieee.Nearest.{div_same}
use lib.Ieee.Back.{round_whole}
use lib.Ieee.Positive.{num, den}
use Rattle.ieee.proofs.SignedParts.{round_zero}
use Rattle.ieee.specs.Numbers.{nought, two}
use Rattle.hal.specs.Numbers.{minus32}
use Rattle.hal.specs.Exp.{in_fixed, in_up, up_start, up_rate, in_down, down_start, down_rate}
use Rattle.hal.proofs.Range.{Within, Exact, round_within, add_within, sub_within, or_split, above_of, below_of, ge_of, whole_le, whole_ge, lt_of, wider, cut_ge}

exact : (n : ℕ) → n ≤ 2 ^ 53 → Exact binary64 n
exact n h = round_whole binary64 false n h

-- ---- the other sign
odd_neg : (d q k l : ℕ) → odd d true q k l ≡ neg (odd d false q k l)
unfolding odd neg
odd_neg d zero k l = refl
odd_neg d (suc q) k l = refl

units_neg : (f : Format) (q k : ℕ) → units f true q k ≡ neg (units f false q k)
unfolding units
units_neg f q k = go (ltb (q * 2 ^ k) (2 ^ (low f + suc (emax f))))
  where
    go : (b : Bool) → cond b (odd (suc (prec f)) true q k (low f)) (inf true) ≡ neg (cond b (odd (suc (prec f)) false q k (low f)) (inf false))
    go true = odd_neg (suc (prec f)) q k (low f)
    go false = unfold neg in refl

round_neg : (f : Format) (a b : ℕ) → round f true a b ≡ neg (round f false a b)
round_neg f a b = round_is f true a b ∙ units_neg f _ _ ∙ ap neg (sym (round_is f false a b))

-- ---- exp2: where 256 * x lies between lo and hi, the sum less 2 ^ 52 does between those times 2 ^ 23
up_product : (m : ℕ) (e : ℤ) (lo hi : ℕ) → lo ≤ 1024 → hi ≤ 1024 → lo * down e ≤ m * up e * 256 → m * up e * 256 ≤ hi * down e → Within (lo * 8388608) (hi * 8388608) (mul binary64 (fin false m e) up_rate)
unfolding mul
up_product m e lo hi L H p q =
    round_within binary64 (lo * 8388608) (hi * 8388608) (m * up e * (1 * 2 ^ 31)) (down e * 1) (mul-pos (down_pos e) (lit< tt)) (exact (lo * 8388608) (omega arith)) (exact (hi * 8388608) (omega arith))
    (let r : lo * 8388608 * (down e * 1) ≡ lo * down e * 8388608 = ap (λ (z : ℕ). lo * 8388608 * z) (mul-one (down e)) ∙ mul_right_comm lo 8388608 (down e) in omega arith)
    (let r : hi * 8388608 * (down e * 1) ≡ hi * down e * 8388608 = ap (λ (z : ℕ). hi * 8388608 * z) (mul-one (down e)) ∙ mul_right_comm hi 8388608 (down e) in omega arith)

up_sum : (q : Float) (lo hi : ℕ) → lo ≤ 1024 → hi ≤ 1024 → Within (lo * 8388608) (hi * 8388608) q → Within (4503599627370496 + lo * 8388608) (4503599627370496 + hi * 8388608) (add binary64 up_start q)
up_sum q lo hi L H w =
    add_within binary64 up_start q 4503599627370496 (lo * 8388608) (hi * 8388608) (exact (4503599627370496 + lo * 8388608) (omega arith)) (exact (4503599627370496 + hi * 8388608) (omega arith)) (lit≤ tt, lit≤ tt) w

up_nought : add binary64 up_start (fin true 0 (pos 0)) ≡ up_start
unfolding add round
up_nought = refl

-- 0 ≤ -m * 2 ^ e
pub zero_below : (m : ℕ) (e : ℤ) → T (le nought (fin true m e)) → m * up e ≡ 0
unfolding le lt eq of_bits
zero_below m e t =
    let p : 0 * 1 * down e ≡ m * up e * 1 = eqb→eq (0 * 1 * down e) (m * up e * 1) (and_l (eqb (0 * 1 * down e) (m * up e * 1)) (false || eqb (0 * 1 * down e) 0) t) in
    omega arith

mul_nought : (s : Bool) (m : ℕ) (e : ℤ) (n : ℕ) (d : ℤ) → m * up e ≡ 0 → mul binary64 (fin s m e) (fin false n d) ≡ fin (unlike s false) 0 (pos 0)
unfolding mul
mul_nought s m e n d z = round_zero binary64 (unlike s false) (m * up e * (n * up d)) (down e * down d) (mul-pos (down_pos e) (down_pos d)) (ap (λ (k : ℕ). k * (n * up d)) z ∙ zero-mul (n * up d))

none : (lo d : ℕ) → 0 < d → lo * d ≤ 0 → lo ≡ 0
none zero d D h = refl
none (suc k) d D h = absurd (let p : suc k * d ≡ k * d + d = suc-mul k d in omega arith)

pub up_within : (x : Float) (lo hi : ℕ) → lo ≤ 1024 → hi ≤ 1024 → T (in_up x) → lo * den x ≤ num x * 256 → num x * 256 ≤ hi * den x
    → Within (4503599627370496 + lo * 8388608) (4503599627370496 + hi * 8388608) (add binary64 up_start (mul binary64 x up_rate))
unfolding le of_bits
up_within nan lo hi L H t p q = absurd t
up_within (inf true) lo hi L H t p q = absurd t
up_within (inf false) lo hi L H t p q = absurd t
up_within (fin false m e) lo hi L H t p q = up_sum (mul binary64 (fin false m e) up_rate) lo hi L H (up_product m e lo hi L H p q)
up_within (fin true m e) lo hi L H t p q =
    let z : m * up e ≡ 0 = zero_below m e (and_l (le nought (fin true m e)) (le (fin true m e) two) t) in
    let n : lo ≡ 0 = none lo (down e) (down_pos e) (omega arith) in
    subst (Within (4503599627370496 + lo * 8388608) (4503599627370496 + hi * 8388608)) (sym (ap (add binary64 up_start) (mul_nought true m e 1 (pos 31) z) ∙ up_nought)) (omega arith, omega arith)

-- ---- exp: from 2 ^ 52 up to the start
below_zero : (m : ℕ) (e : ℤ) → T (le (fin false m e) nought) → m * up e ≡ 0
unfolding of_bits
below_zero m e t = let p : m * up e ≤ 0 * down e = below_of (fin false m e) nought 0 (refl, refl) t m e refl in omega arith

lower : (m : ℕ) (e : ℤ) → T (le minus32 (fin true m e)) → m * up e ≤ 32 * down e
unfolding le lt eq of_bits
lower m e t =
    let p : m * up e * 1 ≤ 1 * 2 ^ 5 * down e = elim (or_split (ltb (m * up e * 1) (1 * 2 ^ 5 * down e)) (eqb (1 * 2 ^ 5 * down e) (m * up e * 1) && (true || eqb (1 * 2 ^ 5 * down e) 0)) t) [
      | inl u ↦ le_of_lt (ltb→lt (m * up e * 1) (1 * 2 ^ 5 * down e) u)
      | inr u ↦ le_of_eq (sym (eqb→eq (1 * 2 ^ 5 * down e) (m * up e * 1) (and_l (eqb (1 * 2 ^ 5 * down e) (m * up e * 1)) (true || eqb (1 * 2 ^ 5 * down e) 0) u)))
    ] in omega arith

-- 32 * rate is 99141248299.5.., and less 2 ^ 52 the start is 47 * 2 ^ 31 = 100931731456: what is left is 1790483156 at least
down_product : (m : ℕ) (e : ℤ) → m * up e ≤ 32 * down e → Within 0 99141248300 (mul binary64 (fin false m e) down_rate)
unfolding mul
down_product m e h =
    round_within binary64 0 99141248300 (m * up e * (3248660424278399 * 1)) (down e * 2 ^ 20) (mul-pos (down_pos e) (pow_pos 20)) (exact 0 (lit≤ tt)) (exact 99141248300 (lit≤ tt))
    (le_trans (le_of_eq (zero-mul (down e * 2 ^ 20))) zero-le) (omega arith)

down_sum : (q : Float) → Within 0 99141248300 q → Within 4503601417853652 4503700559101952 (sub binary64 down_start q)
down_sum q w =
    sub_within binary64 down_start q 4503700559101952 0 99141248300 (lit≤ tt) (lit≤ tt) (exact 4503601417853652 (lit≤ tt)) (exact 4503700559101952 (lit≤ tt)) (lit≤ tt, lit≤ tt) w

mul_neg : (m : ℕ) (e : ℤ) (n : ℕ) (d : ℤ) → mul binary64 (fin true m e) (fin false n d) ≡ neg (mul binary64 (fin false m e) (fin false n d))
unfolding mul
mul_neg m e n d = round_neg binary64 (m * up e * (n * up d)) (down e * down d)

sub_is : (x y : Float) → add binary64 x (neg y) ≡ sub binary64 x y
unfolding sub
sub_is x y = refl

down_nought : add binary64 down_start (fin false 0 (pos 0)) ≡ down_start
unfolding add round
down_nought = refl

pub down_within : (x : Float) → T (in_down x) → Within 4503601417853652 4503700559101952 (add binary64 down_start (mul binary64 x down_rate))
unfolding le of_bits
down_within nan t = absurd t
down_within (inf true) t = absurd t
down_within (inf false) t = absurd t
down_within (fin true m e) t =
    subst (Within 4503601417853652 4503700559101952) (sym (ap (add binary64 down_start) (mul_neg m e 3248660424278399 (negsuc 19)) ∙ sub_is down_start (mul binary64 (fin false m e) down_rate)))
    (down_sum (mul binary64 (fin false m e) down_rate) (down_product m e (lower m e (and_l (le minus32 (fin true m e)) (le (fin true m e) nought) t))))
down_within (fin false m e) t =
    subst (Within 4503601417853652 4503700559101952) (sym (ap (add binary64 down_start) (mul_nought false m e 3248660424278399 (negsuc 19) (below_zero m e (and_r (le minus32 (fin false m e)) (le (fin false m e) nought) t))) ∙ down_nought))
    (lit≤ tt, lit≤ tt)

-- ---- less 2 ^ 52
pub record Fixed (lo hi : ℕ) (w : Float) : Type 0 where
  pub number : T (in_fixed w)
  pub least : lo ≤ to_unsigned 64 w - 4503599627370496
  pub most : to_unsigned 64 w - 4503599627370496 ≤ hi

pub fixed_of_lem : (w : Float) (lo hi : ℕ) → lo < 4503599627370496 → hi < 4503599627370496 → Within (4503599627370496 + lo) (4503599627370496 + hi) w → Fixed lo hi w
fixed_of_lem w lo hi l h b =
    let p : 4503599627370496 + lo ≤ to_unsigned 64 w = whole_ge w (4503599627370496 + lo) (4503599627370496 + hi) (omega arith) b in
    let q : to_unsigned 64 w ≤ 4503599627370496 + hi = whole_le w (4503599627370496 + lo) (4503599627370496 + hi) b in
    record {
      number = and_i (le (fin false 1 (pos 52)) w) (lt w (fin false 1 (pos 53)))
          (ge_of w (fin false 1 (pos 52)) 4503599627370496 (4503599627370496 + hi) (wider w (4503599627370496 + lo) (4503599627370496 + hi) 4503599627370496 (4503599627370496 + hi) (omega arith) (omega arith) b) (refl, refl))
          (lt_of w (fin false 1 (pos 53)) (4503599627370496 + lo) (4503599627370496 + hi) 9007199254740992 (refl, refl) (omega arith) b);
      least = omega arith;
      most = omega arith;
    }

-- the pattern of a / d, from 2 ^ 52 to below 2 ^ 53, by any P = 2 ^ 1074
module _ (A d P : ℕ) (D : 0 < d) (p : 0 < P) (l : 4503599627370496 * d ≤ A) (h : A < 9007199254740992 * d) where
  units_low : 4503599627370496 * P ≤ A * P / d
  units_low = cut_ge (A * P) d (4503599627370496 * P) D (le_trans (le_of_eq (mul_right_comm 4503599627370496 P d)) (mul-le-mul_right P l))

  units_high : A * P / d < 9007199254740992 * P
  units_high = (div-lt_iff_lt-mul D).1 (lt_of_lt_of_le (mul-lt-mul_of_pos_right h p) (le_of_eq (mul_right_comm 9007199254740992 d P)))

  units_back : A * P / d / P ≡ A / d
  units_back = div-div-eq-div-mul (A * P) d P ∙ div_same (A * P) (d * P) A d (mul-pos D p) D (mul_right_comm A P d ∙ mul_assoc A d P)

  whole_low : 4503599627370496 ≤ A / d
  whole_low = cut_ge A d 4503599627370496 D l

  whole_high : A / d < 9007199254740992
  whole_high = (div-lt_iff_lt-mul D).1 h

size_is : (n k : ℕ) → 2 ^ k ≤ n → n < 2 ^ suc k → size n ≡ suc k
size_is n k l h = le_antisymm (size-le n (suc k) h) (above (ltb k (size n)) (ltb→lt k (size n)) (nltb→le k (size n)))
  where
    above : (b : Bool) → (T b → k < size n) → (T (not b) → size n ≤ k) → suc k ≤ size n
    above true f g = f tt
    above false f g = absurd (not-le_of_lt (lt_of_lt_of_le (size-lt n) (pow_mono (g tt))) l)

bits_is : (m : ℕ) (e : ℤ) → to_bits binary64 (fin false m e) ≡ 0 + (size (m * up e * 2 ^ 1074 / down e) - 53) * 4503599627370496 + m * up e * 2 ^ 1074 / down e / 2 ^ (size (m * up e * 2 ^ 1074 / down e) - 53)
unfolding to_bits
bits_is m e = refl

last_bits : (k : ℕ) → 4503599627370496 ≤ k → k < 9007199254740992 → (1074 * 4503599627370496 + k) % 4503599627370496 ≡ k - 4503599627370496
last_bits k l h = omega arith

unsigned_is : (k : ℕ) → k < 9007199254740992 → min k (2 ^ 64 - 1) ≡ k
unsigned_is k h = omega arith

not_negative : (m : ℕ) (e : ℤ) → T (le (fin false 1 (pos 52)) (fin true m e)) → ⊥
unfolding le lt eq
not_negative m e t =
    let a = eqb (1 * 2 ^ 52 * down e) (m * up e * 1) in
    let p : 1 * 2 ^ 52 * down e ≡ 0 = eqb→eq (1 * 2 ^ 52 * down e) 0 (and_r a (false || eqb (1 * 2 ^ 52 * down e) 0) t) in
    let q : 0 < down e = down_pos e in
    omega arith

bits_of_lem : (m : ℕ) (e : ℤ) → 4503599627370496 * down e ≤ m * up e → m * up e < 9007199254740992 * down e → to_bits binary64 (fin false m e) % 4503599627370496 ≡ m * up e / down e - 4503599627370496
bits_of_lem m e l h =
    let A = m * up e in
    let D = down_pos e in
    let s : size (A * 2 ^ 1074 / down e) ≡ 1127 = size_is (A * 2 ^ 1074 / down e) 1126 (units_low A (down e) (2 ^ 1074) D (pow_pos 1074) l h) (units_high A (down e) (2 ^ 1074) D (pow_pos 1074) l h) in
    ap (λ (k : ℕ). k % 4503599627370496) (bits_is m e ∙ ap (λ (k : ℕ). 0 + (k - 53) * 4503599627370496 + A * 2 ^ 1074 / down e / 2 ^ (k - 53)) s ∙ ap (λ (k : ℕ). 0 + 1074 * 4503599627370496 + k) (units_back A (down e) (2 ^ 1074) D (pow_pos 1074) l h))
    ∙ last_bits (A / down e) (whole_low A (down e) (2 ^ 1074) D (pow_pos 1074) l h) (whole_high A (down e) (2 ^ 1074) D (pow_pos 1074) l h)

fixed_bits : (w : Float) → T (in_fixed w) → to_bits binary64 w % 4503599627370496 ≡ to_unsigned 64 w - 4503599627370496
unfolding lt to_unsigned
fixed_bits nan t = absurd (unfold le in t)
fixed_bits (inf true) t = absurd (unfold le in t)
fixed_bits (inf false) t = absurd (unfold le in t)
fixed_bits (fin true m e) t = absurd (not_negative m e (and_l (le (fin false 1 (pos 52)) (fin true m e)) (lt (fin true m e) (fin false 1 (pos 53))) t))
fixed_bits (fin false m e) t =
    let l : 4503599627370496 * down e ≤ m * up e = above_of (fin false m e) (fin false 1 (pos 52)) 4503599627370496 refl (refl, refl) (and_l (le (fin false 1 (pos 52)) (fin false m e)) (lt (fin false m e) (fin false 1 (pos 53))) t) m e refl in
    let h : m * up e * 1 < 1 * 2 ^ 53 * down e = ltb→lt (m * up e * 1) (1 * 2 ^ 53 * down e) (and_r (le (fin false 1 (pos 52)) (fin false m e)) (lt (fin false m e) (fin false 1 (pos 53))) t) in
    let k : m * up e < 9007199254740992 * down e = omega arith in
    bits_of_lem m e l k ∙ ap (λ (z : ℕ). z - 4503599627370496) (sym (unsigned_is (m * up e / down e) (whole_high (m * up e) (down e) 1 (down_pos e) (lit< tt) l k)))

pub no_nan_le : (lo x : Float) → T (le lo x) → T (not (is_nan x))
unfolding le is_nan
no_nan_le nan nan t = t
no_nan_le (inf s) nan t = t
no_nan_le (fin s m e) nan t = t
no_nan_le lo (inf s) t = tt
no_nan_le lo (fin s m e) t = tt

-- ---- what `power` reads from the pattern of w: its last 38 bits, which are w - 2 ^ 52 where that is below 2 ^ 38
pub record Word (w : Float) (u : ℕ) : Type 0 where
  pub number : T (not (is_nan w))
  pub digits : to_bits binary64 w % 274877906944 ≡ u
  pub whole : to_bits binary64 w / 2147483648 % 128 ≡ u / 2147483648

last_of : (b u : ℕ) → b % 4503599627370496 ≡ u → u < 274877906944 → (b % 274877906944 ≡ u) × (b / 2147483648 % 128 ≡ u / 2147483648)
last_of b u e h = (omega arith, omega arith)

pub word_of : (w : Float) (lo hi : ℕ) → hi < 274877906944 → Fixed lo hi w → Word w (to_unsigned 64 w - 4503599627370496)
word_of w lo hi h f =
    let l = last_of (to_bits binary64 w) (to_unsigned 64 w - 4503599627370496) (fixed_bits w f.number) (lt_of_le_of_lt f.most h) in
    record { number = no_nan_le (fin false 1 (pos 52)) w (and_l (le (fin false 1 (pos 52)) w) (lt w (fin false 1 (pos 53))) f.number); digits = l.0; whole = l.1 }
