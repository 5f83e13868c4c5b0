-- The laws of `specs/Laws.antt`. Assumes nothing.
use Rattle.std.proofs.Common.{◌≡◌, ℕ, zero, suc, ◌+◌, ◌*◌, ◌^◌, ◌<◌, ◌≤◌, Bool, true, false, cond, ℤ, pos, negsuc, ◌+ℤ◌, ◌*ℤ◌, sym, refl, ap, ◌∙◌, subst, inl, inr, le_trans, le_of_eq, lt_of_lt_of_le, lt_of_le_of_lt, le_of_lt, lt_irrefl, mul-le-mul_right, zero-lt-suc, mul_assoc, eq-or-lt_of_le, mul-le-mul_left, mul-pos, zero-mul, mul_left_comm, arith, pow_pos}
use native.Mathlib.Nat.{eq_of_mul-eq-mul_right}
use lib.Ieee.{Float, nan, inf, fin, Format, prec, emax, low, up, down, unlike}
use lib.Ieee.Fits.{down_pos}
use Rattle.lists.proofs.Naturals.{le_or_lt}
use Rattle.ieee.specs.Rounding.{apart, distance, Number, Size, RoundTiesToEven}
use Rattle.ieee.specs.Operations.{signed_of, RoundedSum, square, NearestRoot, IsSum, IsFma, IsConverted, IsRoot}
use Rattle.ieee.proofs.Meaning.{round_held}
use Rattle.ieee.proofs.Rounded.{emax_pos, round_ties}
use Rattle.ieee.proofs.Values.{stored}
use Rattle.ieee_laws.specs.Laws.{OneResult, Exact, signed_distance, NoneNearer}
use Rattle.ieee_laws.proofs.Unique.{one_float, ties_unique}

-- ---- the exact sum has a writing as a fraction, so its rounding is one
one_sum : (f : Format) (a : ℤ) (i : ℕ) (b : ℤ) (j : ℕ) (o : Bool) (r t : Float) → 0 < i → 0 < j → RoundedSum f a i b j o r → RoundedSum f a i b j o t → r ≡ t
one_sum f a i b j o r t I J u v = go (a *ℤ pos j +ℤ b *ℤ pos i) refl
  where
    go : (E : ℤ) → a *ℤ pos j +ℤ b *ℤ pos i ≡ E → r ≡ t
    go (pos zero) e = u.exact_zero e ∙ sym (v.exact_zero e)
    go (pos (suc n)) e =
        let h : signed_of false (suc n) *ℤ pos (i * j) ≡ (a *ℤ pos j +ℤ b *ℤ pos i) *ℤ pos (i * j) = ap (λ (z : ℤ). z *ℤ pos (i * j)) (sym e) in
        ties_unique f false (suc n) (i * j) r t (mul-pos I J) (u.rounded false (suc n) (i * j) (zero-lt-suc n) (mul-pos I J) h) (v.rounded false (suc n) (i * j) (zero-lt-suc n) (mul-pos I J) h)
    go (negsuc n) e =
        let h : signed_of true (suc n) *ℤ pos (i * j) ≡ (a *ℤ pos j +ℤ b *ℤ pos i) *ℤ pos (i * j) = ap (λ (z : ℤ). z *ℤ pos (i * j)) (sym e) in
        ties_unique f true (suc n) (i * j) r t (mul-pos I J) (u.rounded true (suc n) (i * j) (zero-lt-suc n) (mul-pos I J) h) (v.rounded true (suc n) (i * j) (zero-lt-suc n) (mul-pos I J) h)

is_one : (r t x : Float) → r ≡ x → t ≡ x → r ≡ t
is_one r t x u v = u ∙ sym v

sum_one : (f : Format) (x y r t : Float) → IsSum f x y r → IsSum f x y t → r ≡ t
sum_one f nan y r t = is_one r t nan
sum_one f (inf s) nan r t = is_one r t nan
sum_one f (inf s) (inf u) r t = is_one r t (cond (unlike s u) nan (inf s))
sum_one f (inf s) (fin u n d) r t = is_one r t (inf s)
sum_one f (fin s m e) nan r t = is_one r t nan
sum_one f (fin s m e) (inf u) r t = is_one r t (inf u)
sum_one f (fin s m e) (fin u n d) r t = one_sum f _ _ _ _ _ r t (down_pos e) (down_pos d)

fma_one : (f : Format) (x y z r t : Float) → IsFma f x y z r → IsFma f x y z t → r ≡ t
fma_one f nan y z r t = is_one r t nan
fma_one f (inf s) nan z r t = is_one r t nan
fma_one f (inf s) (inf u) z r t = sum_one f (inf (unlike s u)) z r t
fma_one f (inf s) (fin u zero d) z r t = is_one r t nan
fma_one f (inf s) (fin u (suc n) d) z r t = sum_one f (inf (unlike s u)) z r t
fma_one f (fin s m e) nan z r t = is_one r t nan
fma_one f (fin s zero e) (inf u) z r t = is_one r t nan
fma_one f (fin s (suc m) e) (inf u) z r t = sum_one f (inf (unlike s u)) z r t
fma_one f (fin s m e) (fin u n d) nan r t = is_one r t nan
fma_one f (fin s m e) (fin u n d) (inf w) r t = is_one r t (inf w)
fma_one f (fin s m e) (fin u n d) (fin w k g) r t = one_sum f _ _ _ _ _ r t (mul-pos (down_pos e) (down_pos d)) (down_pos g)

converted_one : (f : Format) (x r t : Float) → IsConverted f x r → IsConverted f x t → r ≡ t
converted_one f nan r t = is_one r t nan
converted_one f (inf s) r t = is_one r t (inf s)
converted_one f (fin s m e) r t = ties_unique f s (m * up e) (down e) r t (down_pos e)

-- ---- one root
swap : (a b : ℕ) → a + b ≡ b + a
swap a b = omega arith

one_root : (f : Format) (n d : ℕ) (r t : Float) → (u : NearestRoot f n d r) → (v : NearestRoot f n d t) → u.c * 2 ^ u.k ≡ v.c * 2 ^ v.k
one_root f n d r t u v = elim (le_or_lt (u.c * 2 ^ u.k) (v.c * 2 ^ v.k)) [
  | inr l ↦ absurd (no v u l)
  | inl l ↦ elim (eq-or-lt_of_le l) [ inl e ↦ e | inr g ↦ absurd (no u v g) ]
]
  where
    no : {r t : Float} (u : NearestRoot f n d r) (v : NearestRoot f n d t) → u.c * 2 ^ u.k < v.c * 2 ^ v.k → ⊥
    no u v l =
        lt_irrefl (4 * (n * square (2 ^ low f)))
        (lt_of_lt_of_le (u.above v.c v.k v.significand.number l)
        (le_trans (le_of_eq (ap (λ (x : ℕ). square x * d) (swap (u.c * 2 ^ u.k) (v.c * 2 ^ v.k)))) (le_of_lt (v.below u.c u.k u.significand.number l))))

root_one : (f : Format) (x r t : Float) → IsRoot f x r → IsRoot f x t → r ≡ t
root_one f nan r t = is_one r t nan
root_one f (inf true) r t = is_one r t nan
root_one f (inf false) r t = is_one r t (inf false)
root_one f (fin s zero e) r t = is_one r t (fin s zero e)
root_one f (fin true (suc m) e) r t = is_one r t nan
root_one f (fin false (suc m) e) r t = λ u v. one_float f r t false (u.c * 2 ^ u.k) u.held v.held u.sign v.sign u.size (subst (λ (a : ℕ). Size f t a) (sym (one_root f (suc m * up e) (down e) r t u v)) v.size)

pub one_result : (f : Format) → OneResult f
one_result f = record { rounding = ties_unique f; sum = sum_one f; fma = fma_one f; converted = converted_one f; root = root_one f }

-- ---- what needs no rounding
square_le : (a b : ℕ) → a ≤ b → square a ≤ square b
square_le a b h = le_trans (mul-le-mul_left a h) (mul-le-mul_right b h)

-- 4 * b * b is the square of b + b
twice : (b d : ℕ) → 4 * (b * b * d) ≡ square (b + b) * d
twice b d =
    let e : b + b ≡ 2 * b = omega arith in
    let g : 2 * b * (2 * b) * d ≡ 4 * (b * b * d) = simp (mul_assoc, mul_left_comm) (sym (mul_assoc 2 2 (b * (b * d)))) in
    sym (ap (λ (z : ℕ). z * z * d) e ∙ g)

exact_root : (f : Format) (n d y j : ℕ) (r : Float) → 0 < d → Number f y j → n * square (2 ^ low f) ≡ square (y * 2 ^ j) * d → NearestRoot f n d r → Size f r (y * 2 ^ j)
exact_root f n d y j r D w e u =
    let b = y * 2 ^ j in
    let a = u.c * 2 ^ u.k in
    let four : 4 * (n * square (2 ^ low f)) ≡ square (b + b) * d = ap (λ (z : ℕ). 4 * z) e ∙ twice b d in
    elim (le_or_lt a b) [
      | inr l ↦ absurd (lt_irrefl (square (b + b) * d) (lt_of_le_of_lt (mul-le-mul_right d (square_le (b + b) (a + b) (omega arith))) (lt_of_lt_of_le (u.below y j w l) (le_of_eq four))))
      | inl l ↦ elim (eq-or-lt_of_le l) [
        | inl g ↦ subst (λ (z : ℕ). Size f r z) g u.size
        | inr g ↦ absurd (lt_irrefl (square (b + b) * d) (lt_of_le_of_lt (le_of_eq (sym four)) (lt_of_lt_of_le (u.above y j w g) (mul-le-mul_right d (square_le (a + b) (b + b) (omega arith))))))
      ]
    ]

pub exact : (f : Format) → Exact f
exact f =
    record {
      value = λ s m e r h u. ties_unique f s (m * up e) (down e) r (fin s m e) (down_pos e) u (subst (λ (x : Float). RoundTiesToEven f s (m * up e) (down e) x) (round_held f s m e h) (round_ties f s (m * up e) (down e) (down_pos e)));
      root = exact_root f;
    }

-- ---- none nearer
pub none_nearer : (f : Format) → NoneNearer f
none_nearer f s n d r u nan t b h g z = absurd z
none_nearer f s n d r u (inf w) t b h g z = absurd z
none_nearer f s n d r u (fin w m e) t b h g z =
    let v = stored f w m e h in
    let q : v.c * 2 ^ v.k ≡ b = eq_of_mul-eq-mul_right (down e) (down_pos e) (v.c * 2 ^ v.k) b (sym v.size ∙ z) in
    go s t b (subst (λ (x : ℕ). distance f n d (u.c * 2 ^ u.k) ≤ distance f n d x) q (u.nearest v.c v.k v.significand.number))
    (u.nearest 0 0 (record { digits = pow_pos (prec f); place = twice (emax f) (emax_pos f) }))
  where
    twice : (m : ℕ) → 0 < m → 0 < 2 * m
    twice m h = omega arith

    from_zero : (A B N : ℕ) → A ≤ apart (0 * 1 * d) N → A ≤ B + N
    from_zero A B N h = let z = zero-mul d in omega arith

    go : (s t : Bool) (b : ℕ) → distance f n d (u.c * 2 ^ u.k) ≤ distance f n d b → distance f n d (u.c * 2 ^ u.k) ≤ distance f n d (0 * 2 ^ 0) → signed_distance f s n d s (u.c * 2 ^ u.k) ≤ signed_distance f s n d t b
    go true true b h z = h
    go false false b h z = h
    go true false b h z = from_zero (distance f n d (u.c * 2 ^ u.k)) (b * d) (n * 2 ^ low f) z
    go false true b h z = from_zero (distance f n d (u.c * 2 ^ u.k)) (b * d) (n * 2 ^ low f) z
