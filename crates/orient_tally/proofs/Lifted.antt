-- A number from 0 to below 40 and an even number n from 2 ^ 23 up: from there to 2 ^ 24 a float is a whole number, so the sum is n and the number rounded, ties to even. Assumes nothing.
use Prim.Native.Nat.{ℕ, suc, ◌+◌, ◌-◌, ◌*◌, ◌/◌, ◌%◌, ◌^◌, ◌≤◌, ◌<◌, compare, Ordering}
use mathlib.Core.Path.{◌≡◌, refl, sym, ap, ◌∙◌, subst}
use mathlib.Core.Bool.{Bool, true, false, false≢true}
use native.Mathlib.Nat.{lt_of_not-le, not-le_of_lt, lt_of_lt_of_le, mul-pos, mul_assoc, mul_comm, mul-one, add-mul, mul_right_comm, mul-le-mul_right, mul-lt-mul_of_pos_right, le-div_iff_mul-le, div-lt_iff_lt-mul, add-mul-div_right, mul-add-mod_self_right, add_comm, div-one, zero-mul}
use native.Mathlib.Omega.{arith}
use borrow.Author.Tests.{lt-ltb}
use lib.Arith.{le-zero}
use lib.Dec.{ltb, le→leb, lit<, lit≤}
use lib.IntN.{ℤ, pos}
use lib.Pow.{pow_pos, pow_mono}
use lib.Ieee.{Float, nan, inf, fin, binary32, up, down, size, nearest, units, round, sum, add, lt, le, of_int, to_unsigned, in_float}
use lib.Ieee.Digits.{size-lt, size-le}
use lib.Ieee.Fits.{down_pos, round_is}
use lib.Ieee.Nearest.{closest, closest_same, closest_mono}
use lib.Ieee.Back.{unsigned_back}
use Rattle.ieee.specs.F32.{◌⊕◌, rounded}
use Rattle.ieee.specs.Whole.{round_even}
use Rattle.ieee_laws.proofs.Order.{le_fin, lt_fin}

-- ---- from 2 ^ 23 to below 2 ^ 24 a fraction is rounded to a whole number

module _ (num den : ℕ) (D : 0 < den) (l : 2 ^ 23 * den ≤ num) (h : num < 2 ^ 24 * den) where
  abbrev whole : ℕ
  whole = num * 2 ^ 149 / den

  whole_high : whole < 2 ^ 173
  whole_high = (div-lt_iff_lt-mul D).1 (subst (λ (x : ℕ). num * 2 ^ 149 < x) (mul_right_comm (2 ^ 24) den (2 ^ 149)) (mul-lt-mul_of_pos_right h (pow_pos 149)))

  whole_low : 2 ^ 172 ≤ whole
  whole_low = (le-div_iff_mul-le D).1 (subst (λ (x : ℕ). x ≤ num * 2 ^ 149) (mul_right_comm (2 ^ 23) den (2 ^ 149)) (mul-le-mul_right (2 ^ 149) l))

  digits : size whole ≡ 173
  digits =
      let a : size whole ≤ 173 = size-le whole 173 whole_high in
      let b : 172 < size whole = lt_of_not-le (λ (g : size whole ≤ 172). not-le_of_lt (lt_of_lt_of_le (size-lt whole) (pow_mono g)) whole_low) in
      omega arith

  pub by_ones : round binary32 false num den ≡ units binary32 false (closest num den) 149
  by_ones =
      round_is binary32 false num den
      ∙ ap (λ (k : ℕ). units binary32 false (closest (num * 2 ^ 149) (den * 2 ^ (k - 24))) (k - 24)) digits
      ∙ ap (λ (q : ℕ). units binary32 false q 149) (closest_same (num * 2 ^ 149) (den * 2 ^ 149) num den (mul-pos D (pow_pos 149)) D (mul_assoc num (2 ^ 149) den ∙ ap (λ (x : ℕ). num * x) (mul_comm (2 ^ 149) den)))

closest_whole : (a : ℕ) → closest a 1 ≡ a
closest_whole a = let r : a % 1 ≡ 0 = omega arith in rw (r, div-one a) refl

even_is : (s : Bool) (m : ℕ) (e : ℤ) → rounded (fin s m e) ≡ round binary32 s (closest (m * up e) (down e)) 1
unfolding round_even
even_is s m e = refl

none : to_unsigned 64 (round binary32 true 0 1) ≡ 0
unfolding round to_unsigned
none = refl

to_float : (n : ℕ) → round binary32 false n 1 ≡ of_int binary32 (pos n)
unfolding of_int
to_float n = refl

few : (a b : ℕ) → 0 < b → a < 40 * b → closest a b ≤ 40
few a b B h = rw (← closest_whole 40) (closest_mono a b 40 1 B (omega arith) (omega arith))

cut_is : (a b : ℕ) → 0 < b → a < 40 * b → to_unsigned 64 (round binary32 false (closest a b) 1) ≡ closest a b
unfolding of_int in_float
cut_is a b B h = (unsigned_back binary32 64 (closest a b) (le→leb (closest a b) (2 ^ 24) (omega (arith, few a b B h))) (omega (arith, few a b B h))).1

-- ---- any even number n = d * 2 ^ k from 2 ^ 23 to 2 ^ 24 less 41 rounds what it is added to, for what lies in 0 to below 40

pub record Lifts (d k : ℕ) : Type 0 where
  pub even : d * 2 ^ k % 2 ≡ 0
  pub whole : 2 ^ 23 ≤ d * 2 ^ k
  pub room : d * 2 ^ k + 40 < 2 ^ 24

module _ (d k n : ℕ) (is : n ≡ d * 2 ^ k) (l : Lifts d k) where
  even : n % 2 ≡ 0
  even = ap (λ (x : ℕ). x % 2) is ∙ l.even

  large : 2 ^ 23 ≤ n
  large = omega (arith, l.whole)

  room : n + 40 < 2 ^ 24
  room = omega (arith, l.room)

  nearest_more : (q : ℕ) (o : Ordering) → nearest (q + n) o ≡ nearest q o + n
  nearest_more q Ordering.lt = refl
  nearest_more q Ordering.eq = omega (arith, even)
  nearest_more q Ordering.gt = omega arith

  closest_more : (a b : ℕ) → 0 < b → closest (a + n * b) b ≡ closest a b + n
  closest_more a b B =
      let r : (a + n * b) % b ≡ a % b = ap (λ (x : ℕ). x % b) (add_comm a (n * b)) ∙ mul-add-mod_self_right n b a in
      rw (add-mul-div_right a n B, r) (nearest_more (a / b) (compare (a % b * 2) b))

  sum_is : (a b : ℕ) → 0 < b → a < 40 * b → round binary32 false (a + n * b) b ≡ round binary32 false (closest a b + n) 1
  sum_is a b B h =
      let w = mul-le-mul_right b large in
      let r = mul-le-mul_right b room in
      let s : suc (n + 40) * b ≡ n * b + 41 * b = ap (λ (x : ℕ). x * b) (shift n) ∙ add-mul n 41 b in
      by_ones (a + n * b) b B (omega arith) (omega arith)
      ∙ ap (λ (q : ℕ). units binary32 false q 149) (closest_more a b B ∙ sym (closest_whole (closest a b + n)))
      ∙ sym (by_ones (closest a b + n) 1 (omega arith) (omega (arith, large)) (omega (arith, few a b B h, room)))
    where
      shift : (n : ℕ) → suc (n + 40) ≡ n + 41
      shift n = omega arith

  abbrev weight : Float
  weight = fin false d (pos k)

  add_is : (m : ℕ) (e : ℤ) → fin false m e ⊕ weight ≡ round binary32 false (m * up e * 1 + d * 2 ^ k * down e) (down e * 1)
  unfolding add sum
  add_is m e = refl

  add_none : (m : ℕ) (e : ℤ) → ltb (m * up e * 1) (d * 2 ^ k * down e) ≡ true → fin true m e ⊕ weight ≡ round binary32 false (d * 2 ^ k * down e - m * up e * 1) (down e * 1)
  unfolding add sum
  add_none m e h = rw h refl

  pub lifted : (x : Float) → le (fin false 0 (pos 0)) x ≡ true → lt x (fin false 5 (pos 3)) ≡ true → x ⊕ weight ≡ of_int binary32 (pos (to_unsigned 64 (rounded x) + n))
  unfolding lt le
  lifted nan l h = absurd (false≢true h)
  lifted (inf true) l h = absurd (false≢true l)
  lifted (inf false) l h = absurd (false≢true h)
  lifted (fin false m e) l h =
      let g = (lt_fin false m e false 5 (pos 3) h).cross in
      let b : m * up e < 40 * down e = omega arith in
      let p : m * up e * 1 + d * 2 ^ k * down e ≡ m * up e + n * down e = rw is (omega arith) in
      rw (even_is false m e, cut_is (m * up e) (down e) (down_pos e) b, ← to_float (closest (m * up e) (down e) + n), add_is m e, p, mul-one (down e)) (sum_is (m * up e) (down e) (down_pos e) b)
  lifted (fin true m e) l h =
      let g = (le_fin false 0 (pos 0) true m e l).cross in
      let z : m * up e ≡ 0 = omega (arith, zero-mul (down e)) in
      let c = down_pos e in
      let w : 2 ^ 23 * down e ≤ d * 2 ^ k * down e = rw (← is) (mul-le-mul_right (down e) large) in
      let q : ltb (m * up e * 1) (d * 2 ^ k * down e) ≡ true = lt-ltb (m * up e * 1) (d * 2 ^ k * down e) (omega arith) in
      let p : d * 2 ^ k * down e - m * up e * 1 ≡ 0 + n * down e = rw is (omega arith) in
      let f : 0 < 40 * down e = omega arith in
      let o : closest 0 (down e) ≡ 0 = le-zero (closest_mono 0 (down e) 0 1 c (omega arith) (omega arith)) in
      rw (even_is true m e, z, o, none, ← to_float (0 + n), add_none m e q, p, mul-one (down e)) (sum_is 0 (down e) c f ∙ ap (λ (x : ℕ). round binary32 false (x + n) 1) o)

-- ---- the number that the code adds: 2 ^ 23
abbrev pub significand : ℕ
significand = 1

abbrev pub place : ℕ
place = 23

pub lifts : Lifts significand place
lifts = record { even = refl; whole = lit≤ tt; room = lit< tt }

abbrev pub amount : ℕ
amount = significand * 2 ^ place

abbrev pub lift : Float
lift = fin false significand (pos place)
