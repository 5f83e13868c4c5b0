-- A sum of two fractions with signs is its exact value, rounded, by whatever fraction that is written; and the sign of a sum that is exactly zero. Assumes nothing.
use Prim.Native.Nat.{ℕ, zero, suc, ◌+◌, ◌-◌, ◌*◌, ◌<◌}
use mathlib.Core.Path.{◌≡◌, refl, sym, ap, subst, ◌∙◌}
use mathlib.Core.Logic.{◌⊎◌, inl, inr}
use mathlib.Core.Bool.{Bool, true, false, ◌&&◌}
use native.Mathlib.Nat.{zero-mul, mul-zero, mul-pos}
use native.Mathlib.Omega.{arith}
use borrow.Author.Tests.{ltb-true, ltb-false}
use lib.Dec.{ltb}
use lib.IntN.{ℤ, pos, negsuc, neg_ℤ, sub_ℕ, ◌+ℤ◌, ◌*ℤ◌}
use lib.Ieee.{Float, fin, Format, unlike, round, sum}
use lib.Ieee.Scale.{round_same}
use Rattle.ieee.specs.Rounding.{RoundTiesToEven}
use Rattle.ieee.specs.Operations.{signed_of, RoundedSum}
use Rattle.ieee.proofs.SignedParts.{round_zero, plus, minus, summed}
use Rattle.ieee.proofs.Rounded.{round_ties}

-- ---- whole numbers with a sign, by their parts

abbrev above0 : ℤ → ℕ
above0 (pos n) = n
above0 (negsuc n) = 0

abbrev below0 : ℤ → ℕ
below0 (pos n) = 0
below0 (negsuc n) = suc n

above_signed : (s : Bool) (a : ℕ) → above0 (signed_of s a) ≡ plus s a
above_signed false a = refl
above_signed true zero = refl
above_signed true (suc a) = refl

below_signed : (s : Bool) (a : ℕ) → below0 (signed_of s a) ≡ minus s a
below_signed false a = refl
below_signed true zero = refl
below_signed true (suc a) = refl

neg_parts : (n : ℕ) → (above0 (neg_ℤ (pos n)) ≡ 0) × (below0 (neg_ℤ (pos n)) ≡ n)
neg_parts zero = (refl, refl)
neg_parts (suc n) = (refl, refl)

above_times : (z : ℤ) (k : ℕ) → above0 (z *ℤ pos k) ≡ above0 z * k
above_times (pos n) k = refl
above_times (negsuc n) k = (neg_parts (suc n * k)).0 ∙ sym (zero-mul k)

below_times : (z : ℤ) (k : ℕ) → below0 (z *ℤ pos k) ≡ below0 z * k
below_times (pos n) k = sym (zero-mul k)
below_times (negsuc n) k = (neg_parts (suc n * k)).1

sub_parts : (a b : ℕ) → above0 (sub_ℕ a b) + b ≡ below0 (sub_ℕ a b) + a
sub_parts a b = go (ltb a b) refl
  where
    go : (c : Bool) → ltb a b ≡ c → above0 (sub_ℕ a b) + b ≡ below0 (sub_ℕ a b) + a
    go true e = let l = ltb-true a b e in rw e (omega arith)
    go false e = let l = ltb-false a b e in rw e (omega arith)

sum_parts : (y z : ℤ) → above0 (y +ℤ z) + (below0 y + below0 z) ≡ below0 (y +ℤ z) + (above0 y + above0 z)
sum_parts (pos a) (pos b) = omega arith
sum_parts (pos a) (negsuc b) = omega (arith, sub_parts a (suc b))
sum_parts (negsuc a) (pos b) = omega (arith, sub_parts b (suc a))
sum_parts (negsuc a) (negsuc b) = omega arith

apart0 : (z : ℤ) → (above0 z ≡ 0) ⊎ (below0 z ≡ 0)
apart0 (pos n) = inr refl
apart0 (negsuc n) = inl refl

apart_signed : (s : Bool) (a : ℕ) → (plus s a ≡ 0) ⊎ (minus s a ≡ 0)
apart_signed true a = inl refl
apart_signed false a = inr refl

pub times_signed : (s t : Bool) (a b : ℕ) → signed_of s a *ℤ signed_of t b ≡ signed_of (unlike s t) (a * b)
times_signed false false a b = refl
times_signed false true a zero = rw (mul-zero a)
times_signed false true a (suc b) = refl
times_signed true false zero b = rw (zero-mul b)
times_signed true false (suc a) b = refl
times_signed true true zero zero = refl
times_signed true true zero (suc b) = rw (zero-mul (suc b))
times_signed true true (suc a) zero = rw (mul-zero (suc a))
times_signed true true (suc a) (suc b) = refl

-- two ways to write one number by its parts, one of which is 0
one_way : (a b c d : ℕ) → a + d ≡ b + c → (a ≡ 0) ⊎ (b ≡ 0) → (c ≡ 0) ⊎ (d ≡ 0) → (a ≡ c) × (b ≡ d)
one_way a b c d h (inl p) (inl q) = (omega arith, omega arith)
one_way a b c d h (inl p) (inr q) = (omega arith, omega arith)
one_way a b c d h (inr p) (inl q) = (omega arith, omega arith)
one_way a b c d h (inr p) (inr q) = (omega arith, omega arith)

signed_times : (s : Bool) (a k : ℕ) → signed_of s a *ℤ pos k ≡ signed_of s (a * k)
signed_times true a k = times_signed true false a k
signed_times false a k = times_signed false false a k

parts_are : (s : Bool) (a : ℕ) (t : Bool) (b : ℕ) → above0 (signed_of s a +ℤ signed_of t b) + (minus s a + minus t b) ≡ below0 (signed_of s a +ℤ signed_of t b) + (plus s a + plus t b)
parts_are s a t b =
    let a1 = above_signed s a in
    let b1 = below_signed s a in
    let a2 = above_signed t b in
    let b2 = below_signed t b in
    omega (arith, sum_parts (signed_of s a) (signed_of t b))

-- ---- the parts of ±k / d, of which the sum of ±a / c and ±b / c is one writing
module _ (s : Bool) (a : ℕ) (t : Bool) (b c : ℕ) (v : Bool) (k d : ℕ) (h : signed_of v k *ℤ pos c ≡ (signed_of s a +ℤ signed_of t b) *ℤ pos d) where
  abbrev E : ℤ
  E = signed_of s a +ℤ signed_of t b

  plus_is : plus v k * c ≡ above0 E * d
  plus_is = ap (λ (z : ℕ). z * c) (sym (above_signed v k)) ∙ sym (above_times (signed_of v k) c) ∙ ap above0 h ∙ above_times E d

  minus_is : minus v k * c ≡ below0 E * d
  minus_is = ap (λ (z : ℕ). z * c) (sym (below_signed v k)) ∙ sym (below_times (signed_of v k) c) ∙ ap below0 h ∙ below_times E d

one_sign : (f : Format) (v : Bool) (k d : ℕ) (w : Bool) (z c : ℕ) → 0 < k → 0 < c → 0 < d → plus v k * c ≡ plus w z * d → minus v k * c ≡ minus w z * d → round f w z c ≡ round f v k d
one_sign f false k d false z c K C D p m = round_same f false z c k d C D (sym p)
one_sign f true k d true z c K C D p m = round_same f true z c k d C D (sym m)
one_sign f false k d true z c K C D p m = let q = mul-pos K C in let o = zero-mul d in absurd (omega arith)
one_sign f true k d false z c K C D p m = let q = mul-pos K C in let o = zero-mul d in absurd (omega arith)

sum_exact : (f : Format) (s : Bool) (a : ℕ) (t : Bool) (b c : ℕ) (v : Bool) (k d : ℕ) → 0 < c → 0 < k → 0 < d
    → signed_of v k *ℤ pos c ≡ (signed_of s a +ℤ signed_of t b) *ℤ pos d → RoundTiesToEven f v k d (sum f s a t b c)
sum_exact f s a t b c v k d C K D h =
    let w = summed f s a t b c in
    let E = signed_of s a +ℤ signed_of t b in
    let one = one_way (above0 E) (below0 E) (plus w.sign w.size) (minus w.sign w.size)
    (omega (arith, parts_are s a t b, w.parts)) (apart0 E) (apart_signed w.sign w.size) in
    let is : sum f s a t b c ≡ round f v k d =
    w.is
    ∙ one_sign f v k d w.sign w.size c K C D (plus_is s a t b c v k d h ∙ ap (λ (z : ℕ). z * d) one.0) (minus_is s a t b c v k d h ∙ ap (λ (z : ℕ). z * d) one.1) in
    subst (λ (r : Float). RoundTiesToEven f v k d r) (sym is) (round_ties f v k d D)

-- ---- a sum that is exactly zero
zero_parts : (s : Bool) (a : ℕ) (t : Bool) (b : ℕ) → signed_of s a +ℤ signed_of t b ≡ pos 0 → minus s a + minus t b ≡ plus s a + plus t b
zero_parts s a t b h =
    let p : above0 (signed_of s a +ℤ signed_of t b) ≡ 0 = ap above0 h in
    let m : below0 (signed_of s a +ℤ signed_of t b) ≡ 0 = ap below0 h in
    omega (arith, parts_are s a t b)

zero_sum : (f : Format) (s : Bool) (a : ℕ) (t : Bool) (b c : ℕ) → 0 < c → minus s a + minus t b ≡ plus s a + plus t b → sum f s a t b c ≡ fin (s && t) 0 (pos 0)
unfolding sum
zero_sum f true a true b c C h = round_zero f true (a + b) c C (omega arith)
zero_sum f false a false b c C h = round_zero f false (a + b) c C (omega arith)
zero_sum f true a false b c C h = go (ltb a b) (ltb b a) refl refl
  where
    go : (p q : Bool) → ltb a b ≡ p → ltb b a ≡ q → sum f true a false b c ≡ fin false 0 (pos 0)
    go true q u v = let l = ltb-true a b u in absurd (omega arith)
    go false true u v = let l = ltb-true b a v in absurd (omega arith)
    go false false u v = rw (u, v) (round_zero f false (a - b) c C (omega arith))
zero_sum f false a true b c C h = go (ltb a b) refl
  where
    go : (p : Bool) → ltb a b ≡ p → sum f false a true b c ≡ fin false 0 (pos 0)
    go true u = let l = ltb-true a b u in absurd (omega arith)
    go false u = rw u (round_zero f false (a - b) c C (omega arith))

sum_zero : (f : Format) (s : Bool) (a : ℕ) (t : Bool) (b c : ℕ) → 0 < c → signed_of s a +ℤ signed_of t b ≡ pos 0 → sum f s a t b c ≡ fin (s && t) 0 (pos 0)
sum_zero f s a t b c C h = zero_sum f s a t b c C (zero_parts s a t b h)

-- ---- so `sum` is the rounded sum of ±a / i and ±b / j, brought to one denominator
pub sum_rounded : (f : Format) (s : Bool) (a i : ℕ) (t : Bool) (b j : ℕ) → 0 < i → 0 < j → RoundedSum f (signed_of s a) i (signed_of t b) j (s && t) (sum f s (a * j) t (b * i) (i * j))
sum_rounded f s a i t b j I J =
    record {
      rounded = λ v n d N D h. sum_exact f s (a * j) t (b * i) (i * j) v n d (mul-pos I J) N D (rw (← signed_times s a j, ← signed_times t b i) h);
      exact_zero = λ h. sum_zero f s (a * j) t (b * i) (i * j) (mul-pos I J) (rw (← signed_times s a j, ← signed_times t b i) h);
    }
