-- Sign symmetry of the operations that this crate adds, of casts and of tests against zero. For both formats. Assumes nothing.
use Rattle.std.proofs.Common.{◌≡◌, ℕ, ◌+◌, ◌-◌, ◌*◌, ◌/◌, ◌^◌, ◌<◌, min, Bool, true, false, cond, not, ◌&&◌, T, eqb, ltb, ℤ, pos, sym, refl, ap, ◌∙◌, subst, ⊎_elim, eq-zero-or-pos, mul-pos, mul-zero, zero-mul, arith, lt-ltb, eq-eqb, ne_eqb}
use native.Mathlib.Nat.{div-eq_of_lt}
use borrow.Author.Tests.{eqb-false, not-true}
use lib.Ieee.{Float, nan, inf, fin, Format, binary32, binary64, prec, low, up, down, unlike, round, add, lt, eq, level, top, hid, of_bits, to_bits, to_unsigned, to_signed}
use lib.Ieee.Fits.{up_pos, down_pos}
use lib.Ieee.Nearest.{closest, closest_same}
use Rattle.ieee_laws.specs.Sign.{turned, no_sign, Turned, of_nan, of_inf, of_fin, Same}
use Rattle.ieee.specs.Fused.{fma}
use Rattle.ieee.specs.Whole.{floor_size, floor, round_even, saturate}
use Rattle.ieee.specs.F32.{abs_of}
use Rattle.ieee.specs.Numbers.{nought}
use Rattle.packing.proofs.Size.{size_zero}
use Rattle.ieee_laws.proofs.Turned.{Is, left_zero, right_zero, round_turned, signs_of, sum_turned, zero_of, add_turned, mul_turned, product, nonzero, zero_left, zero_right, level_zero}

-- ---- the relation itself

pub same : (x : Float) → Same x x
same nan = of_nan
same (inf s) = of_inf refl
same (fin s m e) = of_fin (turned refl)

-- zero is itself turned
pub zero_any : (b : Bool) → Turned b nought nought
unfolding of_bits
zero_any b = of_fin (no_sign refl)

no_zero : {A : Type 0} (m : ℕ) → m ≡ 0 → not (eqb m 0) ≡ true → A
no_zero m e h = absurd (eqb-false m 0 (not-true (eqb m 0) h) e)

-- ---- the fused x * y + z: where x is turned by a and y by b, z is turned by both

pub fma_turned : {a b : Bool} (f : Format) {x y z x' y' z' : Float} → Turned a x x' → Turned b y y' → Turned (unlike a b) z z' → Turned (unlike a b) (fma f x y z) (fma f x' y' z')
unfolding fma
fma_turned f of_nan q r = of_nan
fma_turned {a} {b} f (of_inf {s = s} e) q r = add_turned f (mul_turned {a = a} {b = b} f (of_inf {s = s} e) q) r
fma_turned f (of_fin e) of_nan r = of_nan
fma_turned {a} {b} f (of_fin {m = m} {e = e} p) (of_inf {s = t} g) r =
    add_turned f (mul_turned {a = a} {b = b} f (of_fin {m = m} {e = e} p) (of_inf {s = t} g)) r
fma_turned f (of_fin e) (of_fin g) of_nan = of_nan
fma_turned f (of_fin e) (of_fin g) (of_inf h) = of_inf h
fma_turned f (of_fin {s = s} {t = s'} {m = m} {e = e} p) (of_fin {s = t} {t = t'} {m = n} {e = d} q) (of_fin {s = u} {t = u'} {m = k} {e = g} r) =
    let a = m * up e * (n * up d) * down g in
    sum_turned f (unlike s t) u (unlike s' t') u' a (k * up g * (down e * down d)) (down e * down d * down g)
    (mul-pos (mul-pos (down_pos e) (down_pos d)) (down_pos g))
    (product a (λ z. rw (z, zero-mul, zero-mul, zero-mul)) (λ z. rw (z, zero-mul, mul-zero, zero-mul)) p q)
    (signs_of (zero_of k (up g) (down e * down d)) r)

-- ---- beside a number that is no zero a zero's sign leaves no trace

is_at : (f : Format) (z : Float) (t : Bool) (y c : ℕ) → 0 < y → Is f z t y c → z ≡ round f t y c
is_at f z t y c h i = i.is ∙ ⊎_elim (λ (e : i.sign ≡ t). ap (λ (s : Bool). round f s y c) e) (λ (e : y ≡ 0). absurd (omega arith)) i.right

some_of : (m : ℕ) → not (eqb m 0) ≡ true → 0 < m
some_of m h = ⊎_elim (λ z. no_zero m z h) (λ p. p) (eq-zero-or-pos m)

pub add_nonzero : (f : Format) (x : Float) {y y' : Float} → nonzero x ≡ true → Same y y' → add f x y' ≡ add f x y
unfolding add nonzero
add_nonzero f nan h p = refl
add_nonzero f (inf s) h of_nan = refl
add_nonzero f (inf s) h (of_inf e) = rw e
add_nonzero f (inf s) h (of_fin p) = refl
add_nonzero f (fin s m e) h of_nan = refl
add_nonzero f (fin s m e) h (of_inf g) = rw g
add_nonzero f (fin s m e) h (of_fin (turned p)) = rw p
add_nonzero f (fin s m e) h (of_fin {s = t} {t = t'} {m = n} {e = d} (no_sign p)) =
    let A = m * up e * down d in
    let B = n * up d * down e in
    let z : B ≡ 0 = zero_of n (up d) (down e) p in
    let a : 0 < A = mul-pos (mul-pos (some_of m h) (up_pos e)) (down_pos d) in
    is_at f _ s A (down e * down d) a (right_zero f s t' A B (down e * down d) z) ∙ sym (is_at f _ s A (down e * down d) a (right_zero f s t A B (down e * down d) z))

pub add_beside : (f : Format) (y : Float) {x x' : Float} → nonzero y ≡ true → Same x x' → add f x' y ≡ add f x y
unfolding add nonzero
add_beside f y h of_nan = refl
add_beside f y h (of_inf e) = rw e
add_beside f nan h (of_fin p) = refl
add_beside f (inf t) h (of_fin p) = refl
add_beside f (fin t n d) h (of_fin (turned p)) = rw p
add_beside f (fin t n d) h (of_fin {s = s} {t = s'} {m = m} {e = e} (no_sign p)) =
    let A = m * up e * down d in
    let B = n * up d * down e in
    let z : A ≡ 0 = zero_of m (up e) (down d) p in
    let b : 0 < B = mul-pos (mul-pos (some_of n h) (up_pos d)) (down_pos e) in
    is_at f _ t B (down e * down d) b (left_zero f s' t A B (down e * down d) z) ∙ sym (is_at f _ t B (down e * down d) b (left_zero f s t A B (down e * down d) z))

-- ---- narrowing, the absolute value, the root

pub abs_turned : {b : Bool} {x y : Float} → Turned b x y → abs_of y ≡ abs_of x
unfolding abs_of
abs_turned of_nan = refl
abs_turned (of_inf e) = refl
abs_turned (of_fin p) = refl

-- ---- to a whole number

pub closest_zero : (a b : ℕ) → 0 < b → a ≡ 0 → closest a b ≡ 0
closest_zero a b h e = closest_same a b 0 1 h (omega arith) (rw (e, zero-mul b))

-- ties to even is odd
pub round_even_turned : {b : Bool} (f : Format) {x y : Float} → Turned b x y → Turned b (round_even f x) (round_even f y)
unfolding round_even
round_even_turned f of_nan = of_nan
round_even_turned f (of_inf e) = of_inf e
round_even_turned f (of_fin {s = s} {t = t} {m = m} {e = e} p) =
    round_turned f s t (closest (m * up e) (down e)) 1 (omega arith)
    (signs_of (λ z. closest_zero (m * up e) (down e) (down_pos e) (rw (z, zero-mul))) p)

zero_div : (a b : ℕ) → 0 < b → a ≡ 0 → a / b ≡ 0
zero_div a b h e = rw e (div-eq_of_lt h)

pub floor_size_zero : (s : Bool) (a b : ℕ) → 0 < b → a ≡ 0 → floor_size s a b ≡ 0
floor_size_zero true a b h e = div-eq_of_lt (omega arith)
floor_size_zero false a b h e = zero_div a b h e

-- downward is not: it keeps only what is the same
pub floor_same : (f : Format) {x y : Float} → Same x y → Same (floor f x) (floor f y)
unfolding floor
floor_same f of_nan = of_nan
floor_same f (of_inf e) = of_inf e
floor_same f (of_fin {s = s} {m = m} {e = e} (turned p)) = rw p (same (floor f (fin s m e)))
floor_same f (of_fin {s = s} {t = t} {m = m} {e = e} (no_sign p)) =
    let z : m * up e ≡ 0 = rw (p, zero-mul) in
    rw (floor_size_zero s (m * up e) (down e) (down_pos e) z, floor_size_zero t (m * up e) (down e) (down_pos e) z)
    (round_turned f s t 0 1 (omega arith) (no_sign refl))

-- ---- as an integer: the same number

none_left : (a c : ℕ) → a ≡ 0 → min a c ≡ 0
none_left a c e = omega arith

pub to_unsigned_same : (w : ℕ) {x y : Float} → Same x y → to_unsigned w y ≡ to_unsigned w x
unfolding to_unsigned
to_unsigned_same w of_nan = refl
to_unsigned_same w (of_inf e) = rw e
to_unsigned_same w (of_fin (turned p)) = rw p
to_unsigned_same w (of_fin {s = s} {t = t} {m = m} {e = e} (no_sign p)) =
    let z : m * up e / down e ≡ 0 = zero_div (m * up e) (down e) (down_pos e) (rw (p, zero-mul)) in
    either t (m * up e / down e) z ∙ sym (either s (m * up e / down e) z)
  where
    either : (s : Bool) (a : ℕ) → a ≡ 0 → cond s 0 (min a (2 ^ w - 1)) ≡ 0
    either true a z = refl
    either false a z = none_left a (2 ^ w - 1) z

saturate_zero : (h : ℕ) (s : Bool) (a : ℕ) → a ≡ 0 → saturate h s a ≡ pos 0
saturate_zero h true a z = rw (none_left a (2 ^ h) z)
saturate_zero h false a z = rw (none_left a (2 ^ h - 1) z)

pub to_signed_same : (h : ℕ) {x y : Float} → Same x y → to_signed h y ≡ to_signed h x
unfolding to_signed
to_signed_same h of_nan = refl
to_signed_same h (of_inf e) = rw e
to_signed_same h (of_fin (turned p)) = rw p
to_signed_same h (of_fin {s = s} {t = t} {m = m} {e = e} (no_sign p)) =
    let z : m * up e / down e ≡ 0 = zero_div (m * up e) (down e) (down_pos e) (rw (p, zero-mul)) in
    saturate_zero h t (m * up e / down e) z ∙ sym (saturate_zero h s (m * up e / down e) z)

-- ---- as bits: the same pattern, but for the zeros', and read back the same number

-- a zero's pattern is its sign's
zero_bits : (f : Format) (s : Bool) (m : ℕ) (e : ℤ) → m ≡ 0 → to_bits f (fin s m e) ≡ cond s (top f) 0
unfolding to_bits
zero_bits f s m e z =
    let n : m * up e * 2 ^ low f / down e ≡ 0 = zero_div (m * up e * 2 ^ low f) (down e) (down_pos e) (rw (z, zero-mul, zero-mul)) in
    rw (n, size_zero) (plain f (cond s (top f) 0))
  where
    plain : (f : Format) (c : ℕ) → c + (0 - prec f) * hid f + 0 / 2 ^ (0 - prec f) ≡ c
    plain binary32 c = omega arith
    plain binary64 c = omega arith

zero_read : (f : Format) (s : Bool) → of_bits f (cond s (top f) 0) ≡ fin s 0 (pos 0)
unfolding of_bits
zero_read binary32 true = refl
zero_read binary32 false = refl
zero_read binary64 true = refl
zero_read binary64 false = refl

pub back_same : (f : Format) {x y : Float} → Same x y → Same (of_bits f (to_bits f x)) (of_bits f (to_bits f y))
back_same f of_nan = same (of_bits f (to_bits f nan))
back_same f (of_inf {s = s} e) = rw e (same (of_bits f (to_bits f (inf s))))
back_same f (of_fin {s = s} {m = m} {e = e} (turned p)) = rw p (same (of_bits f (to_bits f (fin s m e))))
back_same f (of_fin {s = s} {t = t} {m = m} {e = e} (no_sign p)) =
    rw (zero_bits f s m e p, zero_bits f t m e p, zero_read f s, zero_read f t) (of_fin (no_sign refl))

-- ---- tests against zero

some : (m : ℕ) (e : ℤ) → 0 < m → 0 < m * up e * 1
some m e h = mul-pos (mul-pos h (up_pos e)) (omega arith)

none_of : (m : ℕ) (e : ℤ) → m ≡ 0 → m * up e * 1 ≡ 0
none_of m e h = rw (h, zero-mul, zero-mul)

lt_zero : (s : Bool) (m : ℕ) (e : ℤ) → lt (fin s m e) nought ≡ (s && ltb 0 (m * up e * 1))
unfolding lt of_bits
lt_zero s m e = zero_right s false (m * up e * 1) (0 * down e) (zero-mul (down e))

zero_lt : (s : Bool) (m : ℕ) (e : ℤ) → lt nought (fin s m e) ≡ (not s && ltb 0 (m * up e * 1))
unfolding lt of_bits
zero_lt s m e = zero_left false s (0 * down e) (m * up e * 1) (zero-mul (down e))

clash : {A : Type 0} → false ≡ true → A
clash e = absurd (subst T (sym e) tt)

level_no_sign : (s : Bool) (x y : ℕ) → x ≡ 0 → y ≡ 0 → level s x false y ≡ true
level_no_sign s x y a b = level_zero s false (eqb x y) x y refl (λ z. a) ∙ eq-eqb x y (a ∙ sym b)

-- what the test `== 0` finds unequal is no zero
pub nonzero_of : (x : Float) → eq x nought ≡ false → nonzero x ≡ true
unfolding nonzero eq of_bits
nonzero_of nan h = refl
nonzero_of (inf s) h = refl
nonzero_of (fin s m e) h =
    ap not (ne_eqb m 0 (λ z. clash (sym h ∙ level_no_sign s (m * up e * 1) (0 * down e) (none_of m e z) (zero-mul (down e)))))

-- a number that is not zero is positive or negative, and not both
pub data Signed (v : Float) : Type 0 where
  above : lt nought v ≡ true → lt v nought ≡ false → Signed v
  under : lt nought v ≡ false → lt v nought ≡ true → Signed v

signed_fin : (s : Bool) (m : ℕ) (e : ℤ) → 0 < m → Signed (fin s m e)
signed_fin true m e h = under (zero_lt true m e) (lt_zero true m e ∙ lt-ltb 0 (m * up e * 1) (some m e h))
signed_fin false m e h = above (zero_lt false m e ∙ lt-ltb 0 (m * up e * 1) (some m e h)) (lt_zero false m e)

-- as one whose magnitude is above 0 is
pub signed : (v : Float) → lt nought (abs_of v) ≡ true → Signed v
unfolding lt of_bits abs_of
signed nan h = clash h
signed (inf true) h = under refl refl
signed (inf false) h = above refl refl
signed (fin s m e) h =
    ⊎_elim (λ z. clash (sym (zero_left false false (0 * down e) (m * up e * 1) (zero-mul (down e)) ∙ quiet z) ∙ h)) (λ p. signed_fin s m e p) (eq-zero-or-pos m)
  where
    quiet : m ≡ 0 → (true && ltb 0 (m * up e * 1)) ≡ false
    quiet z = rw (none_of m e z)
