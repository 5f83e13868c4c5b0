-- The operations keep the order of their operands. For both formats, and for finite operands, whose results may be infinite. Assumes nothing.
use Rattle.std.proofs.Common.{◌≡◌, ℕ, suc, ◌+◌, ◌-◌, ◌*◌, ◌/◌, ◌^◌, ◌<◌, ◌≤◌, min, Bool, true, false, not, T, eqb, ◌⊎◌, ℤ, pos, sym, refl, ap, inl, inr, ⊎_elim, le_trans, le_of_eq, le_refl, mul-le-mul_right, mod-lt, mul_assoc, suc-mul, mul_comm, div-lt_iff_lt-mul, add-mul, eq-zero-or-pos, mul-pos, mul-zero, div-add-mod', zero-mul, mul_right_comm, le_of_mul-le-mul_right, mul_left_comm, arith, ne_eqb}
use mathlib.Core.Bool.{false≢true}
use lib.Ieee.{Float, nan, inf, fin, Format, up, down, unlike, round, sum, neg, add, sub, mul, div, lt, le, is_nan, of_int, to_unsigned}
use lib.Ieee.Fits.{up_pos, down_pos}
use lib.Ieee.Nearest.{closest, closest_mono, div_mono}
use lib.Ieee.Scale.{finite}
use Rattle.ieee.specs.Fused.{fma, convert}
use Rattle.ieee.specs.Whole.{floor_size, floor, round_even}
use Rattle.ieee_laws.proofs.TurnedOps.{closest_zero, floor_size_zero}
use Rattle.ieee.proofs.SignedParts.{plus, minus, plus_mul, minus_mul, summed}
use Rattle.ieee_laws.proofs.Order.{Leq, le_fin, fin_le, lt_fin, le_trans_float, lt_le_trans, neg_le, round_marked, marked_number, round_le}

ruleset ac = (mul_assoc, mul_comm, mul_left_comm)

-- C - D = (X - X') * q + (Y - Y') * p, and likewise with a bar; x ≤ x̄ and y ≤ ȳ give u / (p * q) ≤ ū / (p̄ * q̄)
sums_cross : (C D X X' Y Y' p q O N Z Z' W W' r k : ℕ)
    → C + (X' * q + Y' * p) ≡ D + (X * q + Y * p) → O + (Z' * k + W' * r) ≡ N + (Z * k + W * r)
    → X * r + Z' * p ≤ Z * p + X' * r → Y * k + W' * q ≤ W * q + Y' * k
    → C * (r * k) + N * (p * q) ≤ O * (p * q) + D * (r * k)
sums_cross C D X X' Y Y' p q O N Z Z' W W' r k e g h l =
    let e1 : C * (r * k) + (X' * q * (r * k) + Y' * p * (r * k)) ≡ D * (r * k) + (X * q * (r * k) + Y * p * (r * k)) = simp add-mul at (ap (λ (z : ℕ). z * (r * k)) e) in
    let g1 : O * (p * q) + (Z' * k * (p * q) + W' * r * (p * q)) ≡ N * (p * q) + (Z * k * (p * q) + W * r * (p * q)) = simp add-mul at (ap (λ (z : ℕ). z * (p * q)) g) in
    let h1 : X * r * (q * k) + Z' * p * (q * k) ≤ Z * p * (q * k) + X' * r * (q * k) = simp add-mul at (mul-le-mul_right (q * k) h) in
    let l1 : Y * k * (p * r) + W' * q * (p * r) ≤ W * q * (p * r) + Y' * k * (p * r) = simp add-mul at (mul-le-mul_right (p * r) l) in
    let a1 : X * q * (r * k) ≡ X * r * (q * k) = simp ac in
    let a2 : X' * q * (r * k) ≡ X' * r * (q * k) = simp ac in
    let a3 : Y * p * (r * k) ≡ Y * k * (p * r) = simp ac in
    let a4 : Y' * p * (r * k) ≡ Y' * k * (p * r) = simp ac in
    let b1 : Z * k * (p * q) ≡ Z * p * (q * k) = simp ac in
    let b2 : Z' * k * (p * q) ≡ Z' * p * (q * k) = simp ac in
    let b3 : W * r * (p * q) ≡ W * q * (p * r) = simp ac in
    let b4 : W' * r * (p * q) ≡ W' * q * (p * r) = simp ac in
    omega arith

pub sum_le : (f : Format) (s : Bool) (a p : ℕ) (t : Bool) (b q : ℕ) (s' : Bool) (a' p' : ℕ) (t' : Bool) (b' q' : ℕ) → 0 < p → 0 < q → 0 < p' → 0 < q'
    → Leq s a p s' a' p' → Leq t b q t' b' q' → le (sum f s (a * q) t (b * p) (p * q)) (sum f s' (a' * q') t' (b' * p') (p' * q')) ≡ true
sum_le f s a p t b q s' a' p' t' b' q' P Q P' Q' h k =
    let x = summed f s (a * q) t (b * p) (p * q) in
    let y = summed f s' (a' * q') t' (b' * p') (p' * q') in
    rw (x.is, y.is)
    (round_le f x.sign x.size (p * q) y.sign y.size (p' * q') (mul-pos P Q) (mul-pos P' Q')
    (record {
      cross =
          sums_cross (plus x.sign x.size) (minus x.sign x.size) (plus s a) (minus s a) (plus t b) (minus t b) p q
          (plus y.sign y.size) (minus y.sign y.size) (plus s' a') (minus s' a') (plus t' b') (minus t' b') p' q'
          (rw (plus_mul s a q, plus_mul t b p, minus_mul s a q, minus_mul t b p) at x.parts)
          (rw (plus_mul s' a' q', plus_mul t' b' p', minus_mul s' a' q', minus_mul t' b' p') at y.parts)
          h.cross k.cross;
    }))

-- ---- sums and differences

pub add_le : (f : Format) (x x' y y' : Float) → finite x ≡ true → finite x' ≡ true → finite y ≡ true → finite y' ≡ true
    → le x x' ≡ true → le y y' ≡ true → le (add f x y) (add f x' y') ≡ true
unfolding add
add_le f (fin s m e) (fin s' m' e') (fin t n d) (fin t' n' d') p p' q q' h k =
    sum_le f s (m * up e) (down e) t (n * up d) (down d) s' (m' * up e') (down e') t' (n' * up d') (down d')
    (down_pos e) (down_pos d) (down_pos e') (down_pos d') (le_fin s m e s' m' e' h) (le_fin t n d t' n' d' k)
add_le f nan x' y y' p p' q q' h k = absurd (false≢true p)
add_le f (inf s) x' y y' p p' q q' h k = absurd (false≢true p)
add_le f (fin s m e) nan y y' p p' q q' h k = absurd (false≢true p')
add_le f (fin s m e) (inf s') y y' p p' q q' h k = absurd (false≢true p')
add_le f (fin s m e) (fin s' m' e') nan y' p p' q q' h k = absurd (false≢true q)
add_le f (fin s m e) (fin s' m' e') (inf t) y' p p' q q' h k = absurd (false≢true q)
add_le f (fin s m e) (fin s' m' e') (fin t n d) nan p p' q q' h k = absurd (false≢true q')
add_le f (fin s m e) (fin s' m' e') (fin t n d) (inf t') p p' q q' h k = absurd (false≢true q')

pub neg_finite : (x : Float) → finite x ≡ true → finite (neg x) ≡ true
unfolding neg
neg_finite nan h = h
neg_finite (inf s) h = h
neg_finite (fin s m e) h = h

pub sub_le : (f : Format) (x x' y y' : Float) → finite x ≡ true → finite x' ≡ true → finite y ≡ true → finite y' ≡ true
    → le x x' ≡ true → le y' y ≡ true → le (sub f x y) (sub f x' y') ≡ true
unfolding sub
sub_le f x x' y y' p p' q q' h k = add_le f x x' (neg y) (neg y') p p' (neg_finite y q) (neg_finite y' q') h (neg_le y' y k)

-- ---- products and quotients

abbrev pub nil : Float
nil = fin false 0 (pos 0)

nonneg : (t : Bool) (n : ℕ) (d : ℤ) → le nil (fin t n d) ≡ true → minus t (n * up d) ≡ 0
nonneg true n d h = let l = (le_fin false 0 (pos 0) true n d h).cross in omega (arith, zero-mul (down d))
nonneg false n d h = refl

-- ±(a * b) has b times the parts of ±a, where ±b is not negative
plus_part : (s t : Bool) (a b : ℕ) → minus t b ≡ 0 → plus (unlike s t) (a * b) ≡ plus s a * b
plus_part true true a b h = rw (h, mul-zero, mul-zero)
plus_part true false a b h = sym (zero-mul b)
plus_part false true a b h = rw (h, mul-zero)
plus_part false false a b h = refl

minus_part : (s t : Bool) (a b : ℕ) → minus t b ≡ 0 → minus (unlike s t) (a * b) ≡ minus s a * b
minus_part true true a b h = rw (h, mul-zero)
minus_part true false a b h = refl
minus_part false true a b h = rw (h, mul-zero, mul-zero)
minus_part false false a b h = sym (zero-mul b)

scale_cross : (X X' p Z Z' r b q : ℕ) → X * r + Z' * p ≤ Z * p + X' * r → X * b * (r * q) + Z' * b * (p * q) ≤ Z * b * (p * q) + X' * b * (r * q)
scale_cross X X' p Z Z' r b q h =
    let l : X * r * (b * q) + Z' * p * (b * q) ≤ Z * p * (b * q) + X' * r * (b * q) = simp add-mul at (mul-le-mul_right (b * q) h) in
    let a1 : X * b * (r * q) ≡ X * r * (b * q) = simp ac in
    let a2 : X' * b * (r * q) ≡ X' * r * (b * q) = simp ac in
    let a3 : Z * b * (p * q) ≡ Z * p * (b * q) = simp ac in
    let a4 : Z' * b * (p * q) ≡ Z' * p * (b * q) = simp ac in
    omega arith

product_leq : (s : Bool) (a p : ℕ) (s' : Bool) (a' p' : ℕ) (t : Bool) (b q : ℕ) → minus t b ≡ 0 → Leq s a p s' a' p' → Leq (unlike s t) (a * b) (p * q) (unlike s' t) (a' * b) (p' * q)
product_leq s a p s' a' p' t b q z h =
    record {
      cross =
          rw (plus_part s t a b z, plus_part s' t a' b z, minus_part s t a b z, minus_part s' t a' b z)
          (scale_cross (plus s a) (minus s a) p (plus s' a') (minus s' a') p' b q h.cross);
    }

pub mul_le_left : (f : Format) (x x' y : Float) → finite x ≡ true → finite x' ≡ true → finite y ≡ true
    → le x x' ≡ true → le nil y ≡ true → le (mul f x y) (mul f x' y) ≡ true
unfolding mul
mul_le_left f (fin s m e) (fin s' m' e') (fin t n d) p p' q h k =
    round_le f (unlike s t) (m * up e * (n * up d)) (down e * down d) (unlike s' t) (m' * up e' * (n * up d)) (down e' * down d)
    (mul-pos (down_pos e) (down_pos d)) (mul-pos (down_pos e') (down_pos d))
    (product_leq s (m * up e) (down e) s' (m' * up e') (down e') t (n * up d) (down d) (nonneg t n d k) (le_fin s m e s' m' e' h))
mul_le_left f nan x' y p p' q h k = absurd (false≢true p)
mul_le_left f (inf s) x' y p p' q h k = absurd (false≢true p)
mul_le_left f (fin s m e) nan y p p' q h k = absurd (false≢true p')
mul_le_left f (fin s m e) (inf s') y p p' q h k = absurd (false≢true p')
mul_le_left f (fin s m e) (fin s' m' e') nan p p' q h k = absurd (false≢true q)
mul_le_left f (fin s m e) (fin s' m' e') (inf t) p p' q h k = absurd (false≢true q)

pub unlike_swap : (s t : Bool) → unlike s t ≡ unlike t s
unlike_swap true true = refl
unlike_swap true false = refl
unlike_swap false true = refl
unlike_swap false false = refl

pub mul_swap : (f : Format) (x y : Float) → mul f x y ≡ mul f y x
unfolding mul
mul_swap f nan nan = refl
mul_swap f nan (inf t) = refl
mul_swap f nan (fin t n d) = refl
mul_swap f (inf s) nan = refl
mul_swap f (inf s) (inf t) = ap inf (unlike_swap s t)
mul_swap f (inf s) (fin t n d) = rw (unlike_swap s t)
mul_swap f (fin s m e) nan = refl
mul_swap f (fin s m e) (inf t) = rw (unlike_swap s t)
mul_swap f (fin s m e) (fin t n d) = rw (unlike_swap s t, mul_comm (m * up e) (n * up d), mul_comm (down e) (down d))

-- both factors grow, the first to something that is not negative and the second from such
pub mul_le : (f : Format) (x x' y y' : Float) → finite x ≡ true → finite x' ≡ true → finite y ≡ true → finite y' ≡ true
    → le x x' ≡ true → le y y' ≡ true → le nil x' ≡ true → le nil y ≡ true → le (mul f x y) (mul f x' y') ≡ true
mul_le f x x' y y' p p' q q' h k a b =
    le_trans_float (mul f x y) (mul f x' y) (mul f x' y') (mul_le_left f x x' y p p' q h b)
    (rw (mul_swap f x' y, mul_swap f x' y') (mul_le_left f y y' x' q q' p' k a))

-- a divisor above zero has no sign, and is not 0
pub record Above (n : ℕ) (t : Bool) : Type 0 where
  pub size : 0 < n
  pub sign : t ≡ false

pub above_zero : (t : Bool) (n : ℕ) (d : ℤ) → lt nil (fin t n d) ≡ true → Above n t
above_zero true n d h = let l = (lt_fin false 0 (pos 0) true n d h).cross in absurd (omega (arith, zero-mul (down d)))
above_zero false n d h = record { size = go (eq-zero-or-pos n); sign = refl }
  where
    go : (n ≡ 0) ⊎ (0 < n) → 0 < n
    go (inl z) = let l : n * up d ≡ 0 = rw (z, zero-mul) in let k = (lt_fin false 0 (pos 0) false n d h).cross in absurd (omega (arith, zero-mul (down d)))
    go (inr p) = p

div_at : (f : Format) (s : Bool) (m : ℕ) (e : ℤ) (t : Bool) (n : ℕ) (d : ℤ) → Above n t → div f (fin s m e) (fin t n d) ≡ round f s (m * up e * down d) (n * up d * down e)
unfolding div
div_at f true m e t n d a = let z : eqb n 0 ≡ false = ne_eqb n 0 (λ z. let l = a.size in omega arith) in rw (a.sign, z)
div_at f false m e t n d a = let z : eqb n 0 ≡ false = ne_eqb n 0 (λ z. let l = a.size in omega arith) in rw (a.sign, z)

quotient_leq : (s : Bool) (a p : ℕ) (s' : Bool) (a' p' b q : ℕ) → Leq s a p s' a' p' → Leq s (a * q) (b * p) s' (a' * q) (b * p')
quotient_leq s a p s' a' p' b q h =
    record {
      cross =
          rw (plus_mul s a q, minus_mul s a q, plus_mul s' a' q, minus_mul s' a' q, mul_comm b p, mul_comm b p')
          (scale_cross (plus s a) (minus s a) p (plus s' a') (minus s' a') p' q b h.cross);
    }

pub div_le_left : (f : Format) (x x' y : Float) → finite x ≡ true → finite x' ≡ true → finite y ≡ true
    → le x x' ≡ true → lt nil y ≡ true → le (div f x y) (div f x' y) ≡ true
div_le_left f (fin s m e) (fin s' m' e') (fin t n d) p p' q h k =
    let a = above_zero t n d k in
    rw (div_at f s m e t n d a, div_at f s' m' e' t n d a)
    (round_le f s (m * up e * down d) (n * up d * down e) s' (m' * up e' * down d) (n * up d * down e')
    (mul-pos (mul-pos a.size (up_pos d)) (down_pos e)) (mul-pos (mul-pos a.size (up_pos d)) (down_pos e'))
    (quotient_leq s (m * up e) (down e) s' (m' * up e') (down e') (n * up d) (down d) (le_fin s m e s' m' e' h)))
div_le_left f nan x' y p p' q h k = absurd (false≢true p)
div_le_left f (inf s) x' y p p' q h k = absurd (false≢true p)
div_le_left f (fin s m e) nan y p p' q h k = absurd (false≢true p')
div_le_left f (fin s m e) (inf s') y p p' q h k = absurd (false≢true p')
div_le_left f (fin s m e) (fin s' m' e') nan p p' q h k = absurd (false≢true q)
div_le_left f (fin s m e) (fin s' m' e') (inf t) p p' q h k = absurd (false≢true q)

anti_cross : (X p b q b' q' : ℕ) → b * q' ≤ b' * q → X * q' * (b * p) ≤ X * q * (b' * p)
anti_cross X p b q b' q' h =
    let l : b * q' * (X * p) ≤ b' * q * (X * p) = mul-le-mul_right (X * p) h in
    let a1 : X * q' * (b * p) ≡ b * q' * (X * p) = simp ac in
    let a2 : X * q * (b' * p) ≡ b' * q * (X * p) = simp ac in
    omega arith

-- a larger divisor of a number that is not negative
pub div_le_right : (f : Format) (x y y' : Float) → finite x ≡ true → finite y ≡ true → finite y' ≡ true
    → le nil x ≡ true → lt nil y ≡ true → le y y' ≡ true → le (div f x y') (div f x y) ≡ true
div_le_right f (fin s m e) (fin t n d) (fin t' n' d') p q q' h k l =
    let a = above_zero t n d k in
    let a' = above_zero t' n' d' (lt_grows (fin t n d) (fin t' n' d') k l) in
    let z = nonneg s m e h in
    let c : n * up d * down d' ≤ n' * up d' * down d = signless a.sign a'.sign (le_fin t n d t' n' d' l) in
    rw (div_at f s m e t n d a, div_at f s m e t' n' d' a')
    (round_le f s (m * up e * down d') (n' * up d' * down e) s (m * up e * down d) (n * up d * down e)
    (mul-pos (mul-pos a'.size (up_pos d')) (down_pos e)) (mul-pos (mul-pos a.size (up_pos d)) (down_pos e))
    (record {
      cross =
          rw (plus_mul s (m * up e) (down d'), minus_mul s (m * up e) (down d'), plus_mul s (m * up e) (down d), minus_mul s (m * up e) (down d), z, zero-mul, zero-mul)
          (let g = anti_cross (plus s (m * up e)) (down e) (n * up d) (down d) (n' * up d') (down d') c in omega (arith, zero-mul (n' * up d' * down e), zero-mul (n * up d * down e)));
    }))
  where
    lt_grows : (y y' : Float) → lt nil y ≡ true → le y y' ≡ true → lt nil y' ≡ true
    lt_grows y y' h k = lt_le_trans nil y y' h k

    signless : {t t' : Bool} {b q b' q' : ℕ} → t ≡ false → t' ≡ false → Leq t b q t' b' q' → b * q' ≤ b' * q
    signless {t} {t'} {b} {q} {b'} {q'} u v w = let g = rw (u, v) at w.cross in omega (arith, zero-mul q, zero-mul q')
div_le_right f nan y y' p q q' h k l = absurd (false≢true p)
div_le_right f (inf s) y y' p q q' h k l = absurd (false≢true p)
div_le_right f (fin s m e) nan y' p q q' h k l = absurd (false≢true q)
div_le_right f (fin s m e) (inf t) y' p q q' h k l = absurd (false≢true q)
div_le_right f (fin s m e) (fin t n d) nan p q q' h k l = absurd (false≢true q')
div_le_right f (fin s m e) (fin t n d) (inf t') p q q' h k l = absurd (false≢true q')

-- ---- the fused x * y + z

leq_refl : (s : Bool) (a p : ℕ) → Leq s a p s a p
leq_refl s a p = record { cross = omega arith }

-- a product and an addend that grow
fused_le : (f : Format) (s : Bool) (m : ℕ) (e : ℤ) (t : Bool) (n : ℕ) (d : ℤ) (u : Bool) (o : ℕ) (g : ℤ) (s' : Bool) (m' : ℕ) (e' : ℤ) (t' : Bool) (n' : ℕ) (d' : ℤ) (u' : Bool) (o' : ℕ) (g' : ℤ)
    → Leq (unlike s t) (m * up e * (n * up d)) (down e * down d) (unlike s' t') (m' * up e' * (n' * up d')) (down e' * down d')
    → le (fin u o g) (fin u' o' g') ≡ true
    → le (fma f (fin s m e) (fin t n d) (fin u o g)) (fma f (fin s' m' e') (fin t' n' d') (fin u' o' g')) ≡ true
unfolding fma
fused_le f s m e t n d u o g s' m' e' t' n' d' u' o' g' h k =
    sum_le f (unlike s t) (m * up e * (n * up d)) (down e * down d) u (o * up g) (down g) (unlike s' t') (m' * up e' * (n' * up d')) (down e' * down d') u' (o' * up g') (down g')
    (mul-pos (down_pos e) (down_pos d)) (down_pos g) (mul-pos (down_pos e') (down_pos d')) (down_pos g') h (le_fin u o g u' o' g' k)

-- the addend grows
pub fma_le_addend : (f : Format) (x y z z' : Float) → finite x ≡ true → finite y ≡ true → finite z ≡ true → finite z' ≡ true
    → le z z' ≡ true → le (fma f x y z) (fma f x y z') ≡ true
fma_le_addend f (fin s m e) (fin t n d) (fin u o g) (fin u' o' g') p q r r' h =
    fused_le f s m e t n d u o g s m e t n d u' o' g' (leq_refl (unlike s t) (m * up e * (n * up d)) (down e * down d)) h
fma_le_addend f nan y z z' p q r r' h = absurd (false≢true p)
fma_le_addend f (inf s) y z z' p q r r' h = absurd (false≢true p)
fma_le_addend f (fin s m e) nan z z' p q r r' h = absurd (false≢true q)
fma_le_addend f (fin s m e) (inf t) z z' p q r r' h = absurd (false≢true q)
fma_le_addend f (fin s m e) (fin t n d) nan z' p q r r' h = absurd (false≢true r)
fma_le_addend f (fin s m e) (fin t n d) (inf u) z' p q r r' h = absurd (false≢true r)
fma_le_addend f (fin s m e) (fin t n d) (fin u o g) nan p q r r' h = absurd (false≢true r')
fma_le_addend f (fin s m e) (fin t n d) (fin u o g) (inf u') p q r r' h = absurd (false≢true r')

-- a factor grows beside one that is not negative
pub fma_le_left : (f : Format) (x x' y z : Float) → finite x ≡ true → finite x' ≡ true → finite y ≡ true → finite z ≡ true
    → le x x' ≡ true → le nil y ≡ true → le (fma f x y z) (fma f x' y z) ≡ true
fma_le_left f (fin s m e) (fin s' m' e') (fin t n d) (fin u o g) p p' q r h k =
    fused_le f s m e t n d u o g s' m' e' t n d u o g
    (product_leq s (m * up e) (down e) s' (m' * up e') (down e') t (n * up d) (down d) (nonneg t n d k) (le_fin s m e s' m' e' h))
    (fin_le u o g u o g (leq_refl u (o * up g) (down g)))
fma_le_left f nan x' y z p p' q r h k = absurd (false≢true p)
fma_le_left f (inf s) x' y z p p' q r h k = absurd (false≢true p)
fma_le_left f (fin s m e) nan y z p p' q r h k = absurd (false≢true p')
fma_le_left f (fin s m e) (inf s') y z p p' q r h k = absurd (false≢true p')
fma_le_left f (fin s m e) (fin s' m' e') nan z p p' q r h k = absurd (false≢true q)
fma_le_left f (fin s m e) (fin s' m' e') (inf t) z p p' q r h k = absurd (false≢true q)
fma_le_left f (fin s m e) (fin s' m' e') (fin t n d) nan p p' q r h k = absurd (false≢true r)
fma_le_left f (fin s m e) (fin s' m' e') (fin t n d) (inf u) p p' q r h k = absurd (false≢true r)

-- ---- one operand: narrowing, and to a whole number. For every operand

inf_least : (y : Float) → T (not (is_nan y)) → le (inf true) y ≡ true
unfolding le is_nan
inf_least nan h = absurd h
inf_least (inf true) h = refl
inf_least (inf false) h = refl
inf_least (fin t n d) h = refl

inf_most : (x : Float) → T (not (is_nan x)) → le x (inf false) ≡ true
unfolding le is_nan
inf_most nan h = absurd h
inf_most (inf true) h = refl
inf_most (inf false) h = refl
inf_most (fin s m e) h = refl

-- where g keeps the infinities, makes numbers of finite numbers and keeps their order, it keeps the order
every_le : (g : Float → Float) → ((s : Bool) → g (inf s) ≡ inf s) → ((s : Bool) (m : ℕ) (e : ℤ) → T (not (is_nan (g (fin s m e)))))
    → ((s : Bool) (m : ℕ) (e : ℤ) (t : Bool) (n : ℕ) (d : ℤ) → le (fin s m e) (fin t n d) ≡ true → le (g (fin s m e)) (g (fin t n d)) ≡ true)
    → (x y : Float) → le x y ≡ true → le (g x) (g y) ≡ true
unfolding le
every_le g i n l nan y h = absurd (false≢true h)
every_le g i n l (inf s) nan h = absurd (false≢true h)
every_le g i n l (inf s) (inf t) h = rw (i s, i t) h
every_le g i n l (inf true) (fin t o d) h = rw (i true) (inf_least (g (fin t o d)) (n t o d))
every_le g i n l (inf false) (fin t o d) h = absurd (false≢true h)
every_le g i n l (fin s m e) nan h = absurd (false≢true h)
every_le g i n l (fin s m e) (inf true) h = absurd (false≢true h)
every_le g i n l (fin s m e) (inf false) h = rw (i false) (inf_most (g (fin s m e)) (n s m e))
every_le g i n l (fin s m e) (fin t o d) h = l s m e t o d h

pub convert_le : (f : Format) (x y : Float) → le x y ≡ true → le (convert f x) (convert f y) ≡ true
unfolding convert
convert_le f =
    every_le (convert f) (λ s. refl) (λ s m e. marked_number (round_marked f s (m * up e) (down e)))
    (λ s m e t n d h. round_le f s (m * up e) (down e) t (n * up d) (down d) (down_pos e) (down_pos d) (le_fin s m e t n d h))

none : (a d : ℕ) → 0 < d → a * d ≡ 0 → a ≡ 0
none a d h e = ⊎_elim (λ z. z) (λ p. let q = mul-pos p h in absurd (omega arith)) (eq-zero-or-pos a)

-- a size that grows with the number: k and l of ±a / p and ±b / q
whole_leq : (s : Bool) (a p : ℕ) (t : Bool) (b q : ℕ) (k l : ℕ) → 0 < p → 0 < q
    → (s ≡ false → t ≡ false → a * q ≤ b * p → k ≤ l) → (s ≡ true → t ≡ true → b * p ≤ a * q → l ≤ k) → (a ≡ 0 → k ≡ 0) → (b ≡ 0 → l ≡ 0) → Leq s a p t b q → Leq s k 1 t l 1
whole_leq false a p false b q k l P Q up dn zl zr h = record { cross = let g = h.cross in let u = up refl refl (omega (arith, zero-mul p, zero-mul q)) in omega arith }
whole_leq true a p true b q k l P Q up dn zl zr h = record { cross = let g = h.cross in let u = dn refl refl (omega (arith, zero-mul p, zero-mul q)) in omega arith }
whole_leq true a p false b q k l P Q up dn zl zr h = record { cross = omega arith }
whole_leq false a p true b q k l P Q up dn zl zr h =
    let g = h.cross in
    let x = zl (none a q Q (omega arith)) in
    let y = zr (none b p P (omega arith)) in
    record { cross = omega arith }

pub round_even_le : (f : Format) (x y : Float) → le x y ≡ true → le (round_even f x) (round_even f y) ≡ true
unfolding round_even
round_even_le f =
    every_le (round_even f) (λ s. refl) (λ s m e. marked_number (round_marked f s (closest (m * up e) (down e)) 1))
    (λ s m e t n d h.
    round_le f s (closest (m * up e) (down e)) 1 t (closest (n * up d) (down d)) 1 (omega arith) (omega arith)
    (whole_leq s (m * up e) (down e) t (n * up d) (down d) (closest (m * up e) (down e)) (closest (n * up d) (down d)) (down_pos e) (down_pos d)
    (λ y z l. closest_mono (m * up e) (down e) (n * up d) (down d) (down_pos e) (down_pos d) l)
    (λ y z l. closest_mono (n * up d) (down d) (m * up e) (down e) (down_pos d) (down_pos e) l)
    (closest_zero (m * up e) (down e) (down_pos e)) (closest_zero (n * up d) (down d) (down_pos d)) (le_fin s m e t n d h)))

-- ceilings of fractions in order
ceil_mono : (a p b q : ℕ) → 0 < p → 0 < q → a * q ≤ b * p → (a + (p - 1)) / p ≤ (b + (q - 1)) / q
ceil_mono a p b q P Q h =
    let k = (b + (q - 1)) / q in
    let over : b ≤ k * q = reach b q Q in
    let l : a * q ≤ k * p * q = le_trans h (le_trans (mul-le-mul_right p over) (le_of_eq (mul_right_comm k q p))) in
    let m : a ≤ k * p = le_of_mul-le-mul_right l Q in
    let n : (a + (p - 1)) / p < suc k = (div-lt_iff_lt-mul P).1 (rw (suc-mul k p) (omega arith)) in
    omega arith
  where
    reach : (b q : ℕ) → 0 < q → b ≤ (b + (q - 1)) / q * q
    reach b q Q = let r = mod-lt (b + (q - 1)) Q in let s = div-add-mod' (b + (q - 1)) q in omega arith

floor_size_le : (s : Bool) (a p : ℕ) (t : Bool) (b q : ℕ) → 0 < p → 0 < q → Leq s a p t b q → Leq s (floor_size s a p) 1 t (floor_size t b q) 1
floor_size_le s a p t b q P Q h =
    whole_leq s a p t b q (floor_size s a p) (floor_size t b q) P Q
    (λ u v l. rw (u, v) (div_mono a p b q P Q l)) (λ u v l. rw (u, v) (ceil_mono b q a p Q P l))
    (floor_size_zero s a p P) (floor_size_zero t b q Q) h

pub floor_le : (f : Format) (x y : Float) → le x y ≡ true → le (floor f x) (floor f y) ≡ true
unfolding floor
floor_le f =
    every_le (floor f) (λ s. refl) (λ s m e. marked_number (round_marked f s (floor_size s (m * up e) (down e)) 1))
    (λ s m e t n d h.
    round_le f s (floor_size s (m * up e) (down e)) 1 t (floor_size t (n * up d) (down d)) 1 (omega arith) (omega arith)
    (floor_size_le s (m * up e) (down e) t (n * up d) (down d) (down_pos e) (down_pos d) (le_fin s m e t n d h)))

-- ---- whole numbers as floats, and back

pub of_int_le : (f : Format) (n k : ℕ) → n ≤ k → le (of_int f (pos n)) (of_int f (pos k)) ≡ true
unfolding of_int
of_int_le f n k h = round_le f false n 1 false k 1 (omega arith) (omega arith) (record { cross = omega arith })

min_le : (a b c : ℕ) → a ≤ b → min a c ≤ min b c
min_le a b c h = omega arith

pub to_unsigned_le : (w : ℕ) (x y : Float) → le x y ≡ true → to_unsigned w x ≤ to_unsigned w y
unfolding le to_unsigned
to_unsigned_le w nan y h = absurd (false≢true h)
to_unsigned_le w (inf s) nan h = absurd (false≢true h)
to_unsigned_le w (inf true) (inf t) h = omega arith
to_unsigned_le w (inf false) (inf true) h = absurd (false≢true h)
to_unsigned_le w (inf false) (inf false) h = le_refl (2 ^ w - 1)
to_unsigned_le w (inf true) (fin t n d) h = omega arith
to_unsigned_le w (inf false) (fin t n d) h = absurd (false≢true h)
to_unsigned_le w (fin s m e) nan h = absurd (false≢true h)
to_unsigned_le w (fin s m e) (inf true) h = absurd (false≢true h)
to_unsigned_le w (fin true m e) (inf false) h = omega arith
to_unsigned_le w (fin false m e) (inf false) h = omega arith
to_unsigned_le w (fin true m e) (fin t n d) h = omega arith
to_unsigned_le w (fin false m e) (fin false n d) h =
    min_le (m * up e / down e) (n * up d / down d) (2 ^ w - 1)
    (div_mono (m * up e) (down e) (n * up d) (down d) (down_pos e) (down_pos d) (let g = (le_fin false m e false n d h).cross in omega (arith, zero-mul (down e), zero-mul (down d))))
to_unsigned_le w (fin false m e) (fin true n d) h =
    let g = (le_fin false m e true n d h).cross in
    let z : m * up e / down e ≤ 0 = div_mono (m * up e) (down e) 0 1 (down_pos e) (omega arith) (rw zero-mul (omega (arith, none (m * up e) (down d) (down_pos d) (omega (arith, zero-mul (down e), zero-mul (down d)))))) in
    omega arith
