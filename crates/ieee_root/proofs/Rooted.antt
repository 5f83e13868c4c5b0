-- `sqrt binary32` gives a value than which none is nearer to the root. `proofs/Midpoints.antt` goes on from there. Assumes nothing.
use mathlib.Core.Path.{◌≡◌, refl, sym, ap, ◌∙◌, subst}
use mathlib.Core.Logic.{inl, inr}
use Prim.Native.Nat.{ℕ, suc, ◌+◌, ◌*◌, ◌^◌, ◌≤◌, ◌<◌}
use native.Mathlib.Nat.{le_trans, le_of_eq, le_of_lt, lt_of_lt_of_le, lt_of_le_of_lt, zero-lt-suc, zero-mul, mul_assoc, mul_left_comm, mul_right_comm, mul-pos, mul-le-mul, mul-le-mul_left, mul-le-mul_right, mul-lt-mul_of_pos_right, lt_of_mul-lt-mul_right, le_of_mul-le-mul_right, eq_of_mul-eq-mul_right}
use native.Mathlib.Omega.{arith}
use mathlib.Core.Bool.{false}
use lib.IntN.{ℤ}
use lib.Dec.{T, lt→ltb, lit<, lit≤}
use lib.Pow.{pow_pos, pow_mono}
use lib.Ieee.{Float, nan, inf, fin, binary32, up, down, round, fits}
use lib.Ieee.Fits.{down_pos, up_pos}
use lib.Ieee.Exact.{HasValue}
use lib.Ieee.Scale.{grid, round_val}
use Rattle.ieee.specs.Root.{halves, sqrt}
use Rattle.ieee.specs.Operations.{square}
use Rattle.packing.proofs.Open.{round_sticky}
use Rattle.ieee_root.proofs.Roots.{Halves, halves_law, twice_square, square_le, sqrt_is}
use Rattle.ieee.proofs.InUnits.{top_lt}
use Rattle.ieee.proofs.Nearby.{nearest_up, nearest_down, at_most_twice}

-- ---- the result, in units
abbrev G : ℕ → ℕ → ℕ
G a c = grid binary32 a c

one_value : (r : Float) (a b c : ℕ) → HasValue r false a c → HasValue r false b c → a ≡ b
one_value nan a b c h k = absurd h
one_value (inf s) a b c h k = absurd h
one_value (fin s m e) a b c h k = eq_of_mul-eq-mul_right (down e) (down_pos e) a b (sym h.1 ∙ k.1)

-- a fraction a / 2 ^ c with c from 149 on, and a not too large
grid_le : (a c : ℕ) → 149 < c → G a (2 ^ c) ≤ a
grid_le a c h =
    le_of_mul-le-mul_right
    (le_trans (at_most_twice 24 (a * 2 ^ 149) (2 ^ c) (lit< tt) (pow_pos c))
    (le_trans (le_of_eq (mul_left_comm 2 a (2 ^ 149))) (mul-le-mul_left a (pow_mono {i = 150} {j = c} h))))
    (pow_pos c)

value_of : (a c : ℕ) → 149 < c → a < 2 ^ 277 → HasValue (round binary32 false a (2 ^ c)) false (G a (2 ^ c)) (2 ^ 149)
value_of a c h k = round_val binary32 a (2 ^ c) (lt_of_le_of_lt (grid_le a c h) k)

-- ---- `omega` takes no number of more than 38 digits, so the large ones are variables here
bound4 : (x b M : ℕ) → x < M → b < 4 → 4 * x + b < 4 * M
bound4 x b M h k = omega arith

bound2 : (x H M : ℕ) → x < M → H ≤ 2 * x + 1 → H < 2 * M
bound2 x H M h k = omega arith

scale_up : (a t x L : ℕ) → 0 < L → 2 * (a * L) ≤ t * (x * (2 * L)) → a ≤ t * x
scale_up a t x L P h = le_of_mul-le-mul_right (le_trans (le_of_eq (mul_left_comm a 2 L)) (le_trans h (le_of_eq (sym (mul_assoc t x (2 * L)))))) (mul-pos (zero-lt-suc 1) P)

scale_down : (a t x L : ℕ) → 0 < L → t * (x * (2 * L)) ≤ 2 * (a * L) → t * x ≤ a
scale_down a t x L P h = le_of_mul-le-mul_right (le_trans (le_of_eq (mul_assoc t x (2 * L))) (le_trans h (le_of_eq (mul_left_comm 2 a L)))) (mul-pos (zero-lt-suc 1) P)

four_parts : (x b L : ℕ) → 0 < L → 0 < b → b < 4 → (x * 2 * (2 * L) < (4 * x + b) * L) × ((4 * x + b) * L < suc x * 2 * (2 * L))
four_parts x b L P h k = (
  lt_of_le_of_lt (le_of_eq (sym (mul_assoc (x * 2) 2 L))) (mul-lt-mul_of_pos_right lo P),
  lt_of_lt_of_le (mul-lt-mul_of_pos_right hi P) (le_of_eq (mul_assoc (suc x * 2) 2 L)),
)
  where
    lo : x * 2 * 2 < 4 * x + b
    lo = omega arith

    hi : 4 * x + b < suc x * 2 * 2
    hi = omega arith

plain_up : (x H t : ℕ) → H ≡ 2 * x → H ≤ t * 1 → 2 * x ≤ t
plain_up x H t e h = omega arith

plain_down : (x H t : ℕ) → H ≡ 2 * x → t * 1 ≤ H → t ≤ 2 * x
plain_down x H t e h = omega arith

odd_up : (x t : ℕ) → 4 * x + 3 ≤ t * 2 → 2 * suc x ≤ t
odd_up x t h = omega arith

odd_down : (x t : ℕ) → t * 2 ≤ 4 * x + 1 → t ≤ 2 * x
odd_down x t h = omega arith

le_suc_of : (x : ℕ) → x ≤ x + 1
le_suc_of x = omega arith

as_one : (x : ℕ) → (x * 2 + 1) * 1 ≡ 2 * x + 1
as_one x = omega arith

-- ---- the root of n, in units
module _ (n : ℕ) (small : n < 2 ^ 426) (large : 2 ^ 149 ≤ n) where
  -- 4 R0 + b, over 2 ^ 151, rounds as 2 R0 + 1 over 2 ^ 150, for a b of 1 or 3
  beside : (R0 b : ℕ) → 0 < b → b < 4 → 2 ^ 24 ≤ R0 → R0 < 2 ^ 213 → halves n ≡ 2 * R0 + 1 → G (4 * R0 + b) (2 ^ 151) ≡ G (halves n) (2 ^ 150)
  beside R0 b p q k s e =
      one_value (round binary32 false (halves n) (2 ^ 150)) (G (4 * R0 + b) (2 ^ 151)) (G (halves n) (2 ^ 150)) (2 ^ 149)
      (subst (λ (r : Float). HasValue r false (G (4 * R0 + b) (2 ^ 151)) (2 ^ 149))
      (round_sticky binary32 false R0 0 150 (4 * R0 + b) (2 ^ 151) (pow_pos 151) k (four_parts R0 b (2 ^ 150) (pow_pos 150) p q) ∙ ap (λ (x : ℕ). round binary32 false x (2 ^ 150)) (as_one R0 ∙ sym e))
      (value_of (4 * R0 + b) 151 (lit< tt) (lt_of_lt_of_le (bound4 R0 b (2 ^ 213) s q) (lit≤ tt))))
      (value_of (halves n) 150 (lit< tt) (lt_of_lt_of_le (bound2 R0 (halves n) (2 ^ 213) s (le_of_eq e)) (lit≤ tt)))

  root_lt : (R0 : ℕ) → R0 * R0 ≤ n → R0 < 2 ^ 213
  root_lt R0 h = square_le R0 (2 ^ 213) (lt_of_le_of_lt h small)

  root_ge : (R0 : ℕ) → n < suc R0 * suc R0 → 2 ^ 24 ≤ R0
  root_ge R0 h = omega (arith, square_le (2 ^ 74) (suc R0) (lt_of_le_of_lt (le_trans (lit≤ tt) large) h))

  halves_lt : halves n < 2 ^ 277
  halves_lt = elim (halves_law n) [
    | inl (R0, e, q) ↦ lt_of_lt_of_le (bound2 R0 (halves n) (2 ^ 213) (root_lt R0 (le_of_eq q)) (le_trans (le_of_eq e) (le_suc_of (2 * R0)))) (lit≤ tt)
    | inr (R0, e, lo, hi) ↦ lt_of_lt_of_le (bound2 R0 (halves n) (2 ^ 213) (root_lt R0 (le_of_lt lo)) (le_of_eq e)) (lit≤ tt)
  ]

  abbrev R : ℕ
  R = G (halves n) (2 ^ 150)

  -- from the halves to the square
  module _ (y j : ℕ) (h : y < 2 ^ 24) where
    up_at : (a c : ℕ) → G a (2 ^ c) < y * 2 ^ j → 2 * (a * 2 ^ 149) ≤ (G a (2 ^ c) + y * 2 ^ j) * 2 ^ c
    up_at a c l = nearest_up 24 (a * 2 ^ 149) (2 ^ c) (lit< tt) (pow_pos c) y j h l

    down_at : (a c : ℕ) → y * 2 ^ j < G a (2 ^ c) → (G a (2 ^ c) + y * 2 ^ j) * 2 ^ c ≤ 2 * (a * 2 ^ 149)
    down_at a c l = nearest_down 24 (a * 2 ^ 149) (2 ^ c) (lit< tt) (pow_pos c) y j h l

    above_units : R < y * 2 ^ j → 4 * n ≤ (R + y * 2 ^ j) * (R + y * 2 ^ j)
    above_units l = go (halves_law n)
      where
        go : Halves n (halves n) → 4 * n ≤ (R + y * 2 ^ j) * (R + y * 2 ^ j)
        go (inl (R0, e, q)) =
            let t : 2 * R0 ≤ R + y * 2 ^ j = plain_up R0 (halves n) (R + y * 2 ^ j) e (scale_up (halves n) (R + y * 2 ^ j) 1 (2 ^ 149) (pow_pos 149) (up_at (halves n) 150 l)) in
            le_trans (le_of_eq (sym (twice_square R0 ∙ ap (λ (x : ℕ). 4 * x) q))) (mul-le-mul t t)
        go (inr (R0, e, lo, hi)) =
            let s : G (4 * R0 + 3) (2 ^ 151) ≡ R = beside R0 3 (lit< tt) (lit< tt) (root_ge R0 hi) (root_lt R0 (le_of_lt lo)) e in
            let w : 2 * ((4 * R0 + 3) * 2 ^ 149) ≤ (R + y * 2 ^ j) * 2 ^ 151 = subst (λ (x : ℕ). 2 * ((4 * R0 + 3) * 2 ^ 149) ≤ (x + y * 2 ^ j) * 2 ^ 151) s (up_at (4 * R0 + 3) 151 (subst (λ (x : ℕ). x < y * 2 ^ j) (sym s) l)) in
            let t : 2 * suc R0 ≤ R + y * 2 ^ j = odd_up R0 (R + y * 2 ^ j) (scale_up (4 * R0 + 3) (R + y * 2 ^ j) 2 (2 ^ 149) (pow_pos 149) w) in
            le_trans (le_trans (mul-le-mul_left 4 (le_of_lt hi)) (le_of_eq (sym (twice_square (suc R0))))) (mul-le-mul t t)

    below_units : y * 2 ^ j < R → (R + y * 2 ^ j) * (R + y * 2 ^ j) ≤ 4 * n
    below_units l = go (halves_law n)
      where
        go : Halves n (halves n) → (R + y * 2 ^ j) * (R + y * 2 ^ j) ≤ 4 * n
        go (inl (R0, e, q)) =
            let t : R + y * 2 ^ j ≤ 2 * R0 = plain_down R0 (halves n) (R + y * 2 ^ j) e (scale_down (halves n) (R + y * 2 ^ j) 1 (2 ^ 149) (pow_pos 149) (down_at (halves n) 150 l)) in
            le_trans (mul-le-mul t t) (le_of_eq (twice_square R0 ∙ ap (λ (x : ℕ). 4 * x) q))
        go (inr (R0, e, lo, hi)) =
            let s : G (4 * R0 + 1) (2 ^ 151) ≡ R = beside R0 1 (lit< tt) (lit< tt) (root_ge R0 hi) (root_lt R0 (le_of_lt lo)) e in
            let w : (R + y * 2 ^ j) * 2 ^ 151 ≤ 2 * ((4 * R0 + 1) * 2 ^ 149) = subst (λ (x : ℕ). (x + y * 2 ^ j) * 2 ^ 151 ≤ 2 * ((4 * R0 + 1) * 2 ^ 149)) s (down_at (4 * R0 + 1) 151 (subst (λ (x : ℕ). y * 2 ^ j < x) (sym s) l)) in
            let t : R + y * 2 ^ j ≤ 2 * R0 = odd_down R0 (R + y * 2 ^ j) (scale_down (4 * R0 + 1) (R + y * 2 ^ j) 2 (2 ^ 149) (pow_pos 149) w) in
            le_trans (mul-le-mul t t) (le_trans (le_of_eq (twice_square R0)) (mul-le-mul_left 4 (le_of_lt lo)))

-- how large the value is, in units
units_lt : (X D A : ℕ) → X * 2 ^ 149 ≡ A * D → X < 2 ^ 128 * D → A < 2 ^ 277
units_lt X D A e h = lt_of_mul-lt-mul_right D (subst (λ (z : ℕ). z < 2 ^ 277 * D) e (lt_of_lt_of_le (mul-lt-mul_of_pos_right h (pow_pos 149)) (le_of_eq (mul_right_comm (2 ^ 128) D (2 ^ 149)))))

units_pos : (X D A : ℕ) → X * 2 ^ 149 ≡ A * D → 0 < X → 1 ≤ A
units_pos X D A e h = lt_of_mul-lt-mul_right D (subst (λ (z : ℕ). z < A * D) (sym (zero-mul D)) (subst (λ (z : ℕ). 0 < z) e (mul-pos h (pow_pos 149))))

-- ---- r is R units, and nearest to the root of A units: on its side of the midpoint with any y * 2 ^ j
pub record Near (A : ℕ) (r : Float) : Type 0 where
  pub R : ℕ
  pub value : HasValue r false R (2 ^ 149)
  pub above : (y j : ℕ) → y < 2 ^ 24 → R < y * 2 ^ j → 4 * (A * 2 ^ 149) ≤ square (R + y * 2 ^ j)
  pub below : (y j : ℕ) → y < 2 ^ 24 → y * 2 ^ j < R → square (R + y * 2 ^ j) ≤ 4 * (A * 2 ^ 149)

pub near_root : (m : ℕ) (e : ℤ) (A : ℕ) → T (fits binary32 (fin false (suc m) e)) → suc m * up e * 2 ^ 149 ≡ A * down e → Near A (sqrt binary32 (fin false (suc m) e))
near_root m e A t u =
    let n = A * 2 ^ 149 in
    let small : n < 2 ^ 426 = mul-lt-mul_of_pos_right (units_lt (suc m * up e) (down e) A u (top_lt binary32 false m e t)) (pow_pos 149) in
    let large : 2 ^ 149 ≤ n = mul-le-mul_right (2 ^ 149) (units_pos (suc m * up e) (down e) A u (mul-pos (zero-lt-suc m) (up_pos e))) in
    let is : sqrt binary32 (fin false (suc m) e) ≡ round binary32 false (halves n) (2 ^ 150) = sqrt_is (fin false (suc m) e) false A (lt→ltb 0 (suc m) (zero-lt-suc m)) (refl, u) in
    subst (Near A) (sym is)
    (record { R = R n small large; value = value_of (halves n) 150 (lit< tt) (halves_lt n small large); above = λ y j h. above_units n small large y j h; below = λ y j h. below_units n small large y j h })
