-- Rounding to binary32 of a whole number of its smallest units: how near the result is, and how far apart two values are. Assumes nothing.
use Prim.Native.Nat.{ℕ, zero, suc, ◌+◌, ◌-◌, ◌*◌, ◌/◌, ◌%◌, ◌^◌, ◌<◌, ◌≤◌, compare, Ordering}
use mathlib.Core.Path.{◌≡◌, refl, sym, ap, ◌∙◌, subst}
use mathlib.Core.Bool.{false, not}
use mathlib.Core.Logic.{◌⊎◌, inl, inr, ⊎_elim}
use native.Mathlib.Nat.{mul_comm, mul_assoc, mul_left_comm, mul-div_cancel, mul-pos, div-add-mod', mod-lt, suc-mul, mul-le-mul_right, le_of_eq, le_trans, lt_of_mul-lt-mul_right, mul-lt-mul_of_pos_right}
use native.Mathlib.Omega.{arith}
use lib.Dec.{T, eqb, is_le, compare_is_eq, leb→le, nleb→lt, eqb→eq, eqb_refl}
use lib.Arith.{lt_of_le-ne}
use lib.Pow.{pow_pos, pow-add}
use lib.Ieee.{binary32, nearest, size, round}
use lib.Ieee.Digits.{size_reaches}
use lib.Ieee.Exact.{HasValue}
use lib.Ieee.Fits.{nearest-le}
use lib.Ieee.Nearest.{closest, closest_same, nearest-ge}
use lib.Ieee.Scale.{grid, overflow, round_val}
use Rattle.lists.proofs.Naturals.{le_or_lt}

-- ---- the nearest whole number
record Close (n u c : ℕ) : Type 0 where
  pub low : 2 * n ≤ 2 * (c * u) + u
  pub high : 2 * (c * u) ≤ 2 * n + u

abbrev Cmp : Ordering → ℕ → ℕ → Type 0
Cmp Ordering.lt a b = a < b
Cmp Ordering.eq a b = a ≡ b
Cmp Ordering.gt a b = b < a

cmp : (a b : ℕ) → Cmp (compare a b) a b
cmp a b = go (compare a b) (leb→le a b) (nleb→lt a b) (eqb→eq a b) (λ (e : a ≡ b). subst (λ (x : ℕ). T (eqb a x)) e (eqb_refl a))
  where
    go : (o : Ordering) → (T (is_le o) → a ≤ b) → (T (not (is_le o)) → b < a) → (T (compare_is_eq o) → a ≡ b) → (a ≡ b → T (compare_is_eq o)) → Cmp o a b
    go Ordering.lt p q r s = lt_of_le-ne (p tt) s
    go Ordering.eq p q r s = r tt
    go Ordering.gt p q r s = q tt

close_nearest : (w r u : ℕ) (o : Ordering) → Cmp o (r * 2) u → r < u → Close (w * u + r) u (nearest w o)
close_nearest w r u Ordering.lt c h = record { low = omega arith; high = omega arith }
close_nearest w r u Ordering.eq c h =
    let a = mul-le-mul_right u (nearest-ge w Ordering.eq) in
    let b = mul-le-mul_right u (nearest-le w Ordering.eq) in
    let d = suc-mul w u in
    record { low = omega arith; high = omega arith }
close_nearest w r u Ordering.gt c h = let d = suc-mul w u in record { low = omega arith; high = omega arith }

close_at : (n u : ℕ) → 0 < u → Close n u (closest n u)
close_at n u U =
    subst (λ (z : ℕ). Close z u (closest n u)) (div-add-mod' n u)
    (close_nearest (n / u) (n % u) u (compare (n % u * 2) u) (cmp (n % u * 2) u) (mod-lt n U))

-- ---- n units of 2 ^ -149, rounded
pub record Near (n r : ℕ) : Type 0 where
  pub low : 16777215 * n ≤ 16777216 * r
  pub high : 16777216 * r ≤ 16777217 * n

-- a number that keeps k digits fewer, of 24
near_of_lem : (n k p c : ℕ) → 0 < n → (k ≡ 0 → p ≡ 1) → (0 < k → p * 8388608 ≤ n) → Close n p c → Near n (c * p)
near_of_lem n zero p c N a b q = let e = a refl in record { low = omega arith; high = omega arith }
near_of_lem n (suc k) p c N a b q = let e = b (omega arith) in record { low = omega arith; high = omega arith }

under : (r n top o : ℕ) → 16777216 * r ≤ 16777217 * n → n < top → top * 2 ≡ o → r < o
under r n top o a b c = omega arith

module _ (U : ℕ) (is : U ≡ 2 ^ 149) (n : ℕ) (some : 0 < n) where
  abbrev fewer : ℕ
  fewer = size n - 24

  unit : 0 < U
  unit = rw is (pow_pos 149)

  whole : n * 2 ^ 149 / U ≡ n
  whole = rw (← is) (mul-div_cancel n unit)

  grid_is : grid binary32 n U ≡ closest n (2 ^ fewer) * 2 ^ fewer
  grid_is =
      rw whole
      (ap (λ (z : ℕ). z * 2 ^ fewer)
      (closest_same (n * 2 ^ 149) (U * 2 ^ fewer) n (2 ^ fewer) (mul-pos unit (pow_pos fewer)) (pow_pos fewer) (rw is (mul_assoc n (2 ^ 149) (2 ^ fewer)))))

  digits : 0 < fewer → 2 ^ fewer * 8388608 ≤ n
  digits h = le_trans (le_of_eq (sym (pow-add 2 fewer 23))) (size_reaches n (fewer + 23) (omega arith))

  pub near : Near n (grid binary32 n U)
  near = rw grid_is (near_of_lem n fewer (2 ^ fewer) (closest n (2 ^ fewer)) some (λ e. ap (λ (z : ℕ). 2 ^ z) e) digits (close_at n (2 ^ fewer) (pow_pos fewer)))

  -- below 2 ^ 276 units it has that value
  pub near_value : (top : ℕ) → top * 2 ≡ overflow binary32 → n < top → HasValue (round binary32 false n U) false (grid binary32 n U) U
  near_value top e h = subst (λ (z : ℕ). HasValue (round binary32 false n U) false (grid binary32 n U) z) (sym is) (round_val binary32 n U (under (grid binary32 n U) n top (overflow binary32) near.high h e))

-- ---- two numbers of 24 digits each: the larger is at most 2 ^ 25 times what lies between them
shifted : (p q i d : ℕ) → q * 2 ^ i < p * 2 ^ (i + d) → 2 ^ i ≤ p * 2 ^ (i + d) - q * 2 ^ i
shifted p q i d h =
    let e : p * 2 ^ (i + d) ≡ p * 2 ^ d * 2 ^ i = ap (λ (z : ℕ). p * z) (pow-add 2 i d) ∙ mul_left_comm p (2 ^ i) (2 ^ d) ∙ mul_comm (2 ^ i) (p * 2 ^ d) in
    let l : q < p * 2 ^ d = lt_of_mul-lt-mul_right (2 ^ i) (subst (λ (z : ℕ). q * 2 ^ i < z) e h) in
    let k = mul-le-mul_right (2 ^ i) l in
    let s = suc-mul q (2 ^ i) in
    rw e (omega arith)

shifted' : (p q i d : ℕ) → q * 2 ^ (i + d) < p * 2 ^ i → 2 ^ i ≤ p * 2 ^ i - q * 2 ^ (i + d)
shifted' p q i d h =
    let e : q * 2 ^ (i + d) ≡ q * 2 ^ d * 2 ^ i = ap (λ (z : ℕ). q * z) (pow-add 2 i d) ∙ mul_left_comm q (2 ^ i) (2 ^ d) ∙ mul_comm (2 ^ i) (q * 2 ^ d) in
    let l : q * 2 ^ d < p = lt_of_mul-lt-mul_right (2 ^ i) (subst (λ (z : ℕ). z < p * 2 ^ i) e h) in
    let k = mul-le-mul_right (2 ^ i) l in
    let s = suc-mul (q * 2 ^ d) (2 ^ i) in
    rw e (omega arith)

-- x of the digits q, y of the digits p
gap_of : (x y u v : ℕ) → x < y → x < 16777216 * u → y < 16777216 * v → (u ≤ y - x) ⊎ (v ≤ y - x) → y ≤ 33554432 * (y - x)
gap_of x y u v h a b (inl c) = ⊎_elim (λ l. omega arith) (λ l. omega arith) (le_or_lt (2 * x) y)
gap_of x y u v h a b (inr c) = omega arith

pub gap : (q j p i : ℕ) → q < 16777216 → p < 16777216 → q * 2 ^ j < p * 2 ^ i → p * 2 ^ i ≤ 33554432 * (p * 2 ^ i - q * 2 ^ j)
gap q j p i a b h =
    gap_of (q * 2 ^ j) (p * 2 ^ i) (2 ^ j) (2 ^ i) h (below q j a) (below p i b)
    (⊎_elim (λ l. inl (up l)) (λ l. inr (down l)) (le_or_lt j i))
  where
    below : (q j : ℕ) → q < 16777216 → q * 2 ^ j < 16777216 * 2 ^ j
    below q j a = mul-lt-mul_of_pos_right a (pow_pos j)

    up : j ≤ i → 2 ^ j ≤ p * 2 ^ i - q * 2 ^ j
    up l = let e : i ≡ j + (i - j) = omega arith in subst (λ (z : ℕ). q * 2 ^ j < p * 2 ^ z → 2 ^ j ≤ p * 2 ^ z - q * 2 ^ j) (sym e) (shifted p q j (i - j)) h

    down : i < j → 2 ^ i ≤ p * 2 ^ i - q * 2 ^ j
    down l = let e : j ≡ i + (j - i) = omega arith in subst (λ (z : ℕ). q * 2 ^ z < p * 2 ^ i → 2 ^ i ≤ p * 2 ^ i - q * 2 ^ z) (sym e) (shifted' p q i (j - i)) h

-- ---- the parabola's divisor, in units: 2m - l rounded to c, and c - r. What lies between l and r is at most 8 times that.
pub divisor : (l m r c : ℕ) → l < m → r < m → m ≤ c → m ≤ 33554432 * (m - r) → Near (2 * m - l) c → l < r → r - l ≤ 8 * (c - r)
divisor l m r c a b k g e h = ⊎_elim (λ s. omega (arith, e.low)) (λ s. omega (arith, e.low)) (le_or_lt m (4194304 * (r - l)))
