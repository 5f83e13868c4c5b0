-- The magnitude's range: 0 to 2 ^ 22, and 0 for (0, 0). Assumes nothing.
use mathlib.Core.Path.{◌≡◌, refl, sym, ap, ◌∙◌, subst}
use mathlib.Core.Bool.{Bool, true, false, not, cond}
use mathlib.Core.List.{List}
use Prim.Native.Nat.{ℕ, zero, suc, ◌+◌, ◌*◌, ◌/◌, ◌^◌, ◌≤◌, ◌<◌, zero-le}
use native.Mathlib.Nat.{le_trans, le_of_eq, lt_of_le_of_lt, not-le_of_lt, zero-mul, add-zero, mul_assoc, mul_right_comm, mul-mul-mul_comm, mul-le-mul, mul-le-mul_right, mul-pos}
use native.Mathlib.Numerals.{add-one}
use native.Mathlib.Omega.{arith}
use lib.IntN.{ℤ}
use lib.Dec.{T, ltb, leb, eqb, leb→le, ltb→lt, nltb→le, eqb→eq, lit<, lit≤}
use lib.Ieee.{Float, nan, inf, fin, binary32, unlike, up, down, size, eq, mul, round, sum, of_bits}
use lib.Ieee.Fits.{down_pos}
use lib.Ieee.Bits.{is_true}
use lib.Ieee.Back.{round_whole}
use lib.Ieee.Scale.{finite}
use Rattle.ieee_length.specs.Mild.{all_mild}
use Rattle.ieee.specs.Root.{root_in, root, halves, sqrt}
use Rattle.ieee.specs.Fused.{fma}
use Rattle.ieee.specs.F32.{◌⊗◌, fused, root_of, abs_of}
use Rattle.ieee.proofs.SignedParts.{round_zero}
use Rattle.ieee.specs.Numbers.{nought}
use Rattle.hal_reach.specs.Reach.{in_reach, in_angle}
use Rattle.hal_magnitude.specs.Cubics.{cubics}
use Rattle.hal_magnitude.specs.Magnitude.{magnitude_of}
use Rattle.hal.proofs.Range.{Within, Exact, round_within, cut_le}
use Rattle.hal_reach.proofs.Reach.{bounded, reach_nan, reach_inf, reach_dx, reach_dy, zero_of}

-- ---- the whole root
twice_square : (r : ℕ) → 2 * r * (2 * r) ≡ 4 * (r * r)
twice_square r = mul-mul-mul_comm 2 r 2 r

root_step : (q n : ℕ) → q * q ≤ n / 4 → (2 * q + cond (leb (suc (2 * q) * suc (2 * q)) n) 1 0) * (2 * q + cond (leb (suc (2 * q) * suc (2 * q)) n) 1 0) ≤ n
root_step q n p = go (leb (suc (2 * q) * suc (2 * q)) n) (leb→le (suc (2 * q) * suc (2 * q)) n)
  where
    go : (b : Bool) → (T b → suc (2 * q) * suc (2 * q) ≤ n) → (2 * q + cond b 1 0) * (2 * q + cond b 1 0) ≤ n
    go true f = subst (λ (z : ℕ). z * z ≤ n) (sym (add-one (2 * q))) (f tt)
    go false f = subst (λ (z : ℕ). z * z ≤ n) (sym (add-zero (2 * q))) (le_trans (le_of_eq (twice_square q)) (omega arith))

root_in_lem : (k n : ℕ) → root_in k n * root_in k n ≤ n
unfolding root_in
root_in_lem zero n = zero-le
root_in_lem (suc k) n = root_step (root_in k (n / 4)) n (root_in_lem k (n / 4))

root_below : (n R : ℕ) → n < R * R → root n < R
unfolding root
root_below n R h = go (ltb (root n) R) (ltb→lt (root n) R) (nltb→le (root n) R)
  where
    go : (b : Bool) → (T b → root n < R) → (T (not b) → R ≤ root n) → root n < R
    go true f g = f tt
    go false f g = absurd (not-le_of_lt h (le_trans (mul-le-mul (g tt) (g tt)) (root_in_lem (size n) n)))

halves_le : (n R : ℕ) → n < R * R → halves n ≤ 2 * R
unfolding halves
halves_le n R h = go (eqb (root n * root n) n) (root_below n R h)
  where
    go : (b : Bool) → root n < R → 2 * root n + cond b 0 1 ≤ 2 * R
    go true l = omega arith
    go false l = omega arith

-- ---- the root of what lies in 0 to 2 ^ 43
exact : (n : ℕ) → n ≤ 16777216 → Exact binary32 n
exact n h = round_whole binary32 false n h

scaled_below : (a d P : ℕ) → 0 < d → a ≤ 8796093022208 * d → a * P / d ≤ 8796093022208 * P
scaled_below a d P D h = cut_le (a * P) d (8796093022208 * P) D (le_trans (mul-le-mul_right P h) (le_of_eq (mul_right_comm 8796093022208 d P)))

root_within : (z : Float) → Within 0 8796093022208 z → Within 0 4194304 (root_of z)
unfolding sqrt
root_within nan w = absurd w
root_within (inf s) w = absurd w
root_within (fin true m e) w = absurd w
root_within (fin false zero e) w = (w.0, le_trans (le_of_eq (zero-mul (up e))) zero-le)
root_within (fin false (suc m) e) w =
    let n = suc m * up e * 4 ^ 149 / down e in
    let l : n ≤ 8796093022208 * 4 ^ 149 = scaled_below (suc m * up e) (down e) (4 ^ 149) (down_pos e) w.1 in
    round_within binary32 0 4194304 (halves n) (2 * 2 ^ 149) (lit< tt) (exact 0 (lit≤ tt)) (exact 4194304 (lit≤ tt)) zero-le
    (le_trans (halves_le n (4194304 * 2 ^ 149) (lt_of_le_of_lt l (lit< tt))) (lit≤ tt))

-- ---- the fused sum
like : (s : Bool) → unlike s s ≡ false
like true = refl
like false = refl

exact_square : Exact binary32 4398046511104
unfolding round
exact_square = (refl, refl)

exact_sum : Exact binary32 8796093022208
unfolding round
exact_sum = (refl, refl)

square_le : (a d : ℕ) → a ≤ 2097152 * d → a * a ≤ 4398046511104 * (d * d)
square_le a d h = le_trans (mul-le-mul h h) (le_of_eq (mul-mul-mul_comm 2097152 d 2097152 d))

square_within : (t : Bool) (n : ℕ) (d : ℤ) → n * up d ≤ 2097152 * down d → Within 0 4398046511104 (mul binary32 (fin t n d) (fin t n d))
unfolding mul
square_within t n d h =
    subst (λ (s : Bool). Within 0 4398046511104 (round binary32 s (n * up d * (n * up d)) (down d * down d))) (sym (like t))
    (round_within binary32 0 4398046511104 (n * up d * (n * up d)) (down d * down d) (mul-pos (down_pos d) (down_pos d)) (exact 0 (lit≤ tt)) exact_square
    (le_trans (le_of_eq (zero-mul (down d * down d))) zero-le) (square_le (n * up d) (down d) h))

sum_le : (a d p g : ℕ) → a ≤ 4398046511104 * d → p ≤ 4398046511104 * g → a * g + p * d ≤ 8796093022208 * (d * g)
sum_le a d p g h k =
    let x : a * g ≤ 4398046511104 * (d * g) = le_trans (mul-le-mul_right g h) (le_of_eq (mul_assoc 4398046511104 d g)) in
    let y : p * d ≤ 4398046511104 * (d * g) = le_trans (mul-le-mul_right d k) (le_of_eq (mul_right_comm 4398046511104 g d ∙ mul_assoc 4398046511104 d g)) in
    omega arith

fused_within : (s : Bool) (m : ℕ) (e : ℤ) (q : Float) → m * up e ≤ 2097152 * down e → Within 0 4398046511104 q → Within 0 8796093022208 (fma binary32 (fin s m e) (fin s m e) q)
unfolding fma
fused_within s m e nan h w = absurd w
fused_within s m e (inf t) h w = absurd w
fused_within s m e (fin true p g) h w = absurd w
fused_within s m e (fin false p g) h w =
    subst (λ (t : Bool). Within 0 8796093022208 (sum binary32 t (m * up e * (m * up e) * down g) false (p * up g * (down e * down e)) (down e * down e * down g))) (sym (like s))
    (unfold sum in round_within binary32 0 8796093022208 (m * up e * (m * up e) * down g + p * up g * (down e * down e)) (down e * down e * down g) (mul-pos (mul-pos (down_pos e) (down_pos e)) (down_pos g)) (exact 0 (lit≤ tt)) exact_sum
    (le_trans (le_of_eq (zero-mul (down e * down e * down g))) zero-le)
    (sum_le (m * up e * (m * up e)) (down e * down e) (p * up g) (down g) (square_le (m * up e) (down e) h) w.1))

inner_within : (dx dy : Float) → T (in_reach (abs_of dx)) → T (in_reach (abs_of dy)) → Within 0 8796093022208 (fused dx dx (dy ⊗ dy))
inner_within nan dy h k = absurd (reach_nan h)
inner_within (inf s) dy h k = absurd (reach_inf s h)
inner_within (fin s m e) nan h k = absurd (reach_nan k)
inner_within (fin s m e) (inf t) h k = absurd (reach_inf t k)
inner_within (fin s m e) (fin t n d) h k = fused_within s m e (mul binary32 (fin t n d) (fin t n d)) (bounded s m e h) (square_within t n d (bounded t n d k))

pub magnitude_is : (dx dy : Float) → T (in_angle dx dy) → magnitude_of dx dy ≡ root_of (fused dx dx (dy ⊗ dy))
unfolding magnitude_of
magnitude_is dx dy h = simp (is_true (in_angle dx dy) h)

pub magnitude_within : (dx dy : Float) → T (in_angle dx dy) → Within 0 4194304 (magnitude_of dx dy)
magnitude_within dx dy h = subst (Within 0 4194304) (sym (magnitude_is dx dy h)) (root_within (fused dx dx (dy ⊗ dy)) (inner_within dx dy (reach_dx dx dy h) (reach_dy dx dy h)))

-- ---- what the routine with the table asks: no coefficient is large, and no square is
cubics_mild : all_mild cubics ≡ true
unfolding all_mild cubics of_bits
cubics_mild = refl

pub mild_of : (t : List Float) → t ≡ cubics → all_mild t ≡ true
mild_of t e = ap all_mild e ∙ cubics_mild

within_finite : (z : Float) (lo hi : ℕ) → Within lo hi z → finite z ≡ true
within_finite nan lo hi w = absurd w
within_finite (inf s) lo hi w = absurd w
within_finite (fin s m e) lo hi w = refl

pub inner_finite : (dx dy : Float) → T (in_angle dx dy) → finite (fused dx dx (dy ⊗ dy)) ≡ true
inner_finite dx dy h = within_finite (fused dx dx (dy ⊗ dy)) 0 8796093022208 (inner_within dx dy (reach_dx dx dy h) (reach_dy dx dy h))

-- ---- (0, 0)
zero_digits : (s : Bool) (m : ℕ) (e : ℤ) → T (eq (fin s m e) nought) → m * up e ≡ 0
zero_digits s m e t = eqb→eq (m * up e) 0 (subst T (zero_of s m e) t)

square_zero : (t : Bool) (n : ℕ) (d : ℤ) → n * up d ≡ 0 → mul binary32 (fin t n d) (fin t n d) ≡ nought
unfolding mul of_bits
square_zero t n d z =
    ap (λ (s : Bool). round binary32 s (n * up d * (n * up d)) (down d * down d)) (like t)
    ∙ round_zero binary32 false (n * up d * (n * up d)) (down d * down d) (mul-pos (down_pos d) (down_pos d)) (ap (λ (k : ℕ). k * (n * up d)) z ∙ zero-mul (n * up d))

fused_zero : (s : Bool) (m : ℕ) (e : ℤ) → m * up e ≡ 0 → fma binary32 (fin s m e) (fin s m e) nought ≡ nought
unfolding fma sum of_bits
fused_zero s m e z =
    ap (λ (t : Bool). sum binary32 t (m * up e * (m * up e) * 1) false (0 * 1 * (down e * down e)) (down e * down e * 1)) (like s)
    ∙ round_zero binary32 false (m * up e * (m * up e) * 1 + 0 * 1 * (down e * down e)) (down e * down e * 1) (mul-pos (mul-pos (down_pos e) (down_pos e)) (lit< tt))
    (let p : m * up e * (m * up e) ≡ 0 = ap (λ (k : ℕ). k * (m * up e)) z ∙ zero-mul (m * up e) in omega arith)

root_zero : root_of nought ≡ nought
unfolding sqrt of_bits
root_zero = refl

inner_zero : (dx dy : Float) → T (in_reach (abs_of dx)) → T (in_reach (abs_of dy)) → T (eq dx nought) → T (eq dy nought) → fused dx dx (dy ⊗ dy) ≡ nought
inner_zero nan dy h k t u = absurd (reach_nan h)
inner_zero (inf s) dy h k t u = absurd (reach_inf s h)
inner_zero (fin s m e) nan h k t u = absurd (reach_nan k)
inner_zero (fin s m e) (inf b) h k t u = absurd (reach_inf b k)
inner_zero (fin s m e) (fin b n d) h k t u =
    ap (fma binary32 (fin s m e) (fin s m e)) (square_zero b n d (zero_digits b n d u)) ∙ fused_zero s m e (zero_digits s m e t)

pub magnitude_none : (dx dy : Float) → T (in_angle dx dy) → T (eq dx nought) → T (eq dy nought) → magnitude_of dx dy ≡ nought
magnitude_none dx dy h t u = magnitude_is dx dy h ∙ ap root_of (inner_zero dx dy (reach_dx dx dy h) (reach_dy dx dy h) t u) ∙ root_zero
