-- The whole root of a number, and the square root of a value by a root of 63 digits. Assumes nothing.
use mathlib.Core.Path.{◌≡◌, refl, sym, ap, ◌∙◌, subst}
use mathlib.Core.Logic.{◌⊎◌, inl, inr}
use Prim.Native.Nat.{ℕ, zero, suc, ◌+◌, ◌*◌, ◌/◌, ◌^◌, ◌≤◌, ◌<◌, zero-le}
use native.Mathlib.Nat.{le_trans, le_of_eq, le_of_lt, lt_of_lt_of_le, lt_of_le_of_lt, lt_of_not-le, not-le_of_lt, le_antisymm, zero-lt-suc, add-zero, mul_comm, mul_assoc, mul_left_comm, mul_right_comm, mul-pos, mul-le-mul, mul-le-mul_left, mul-lt-mul_of_pos_right, mul-div_cancel, pow-suc, pow-le-pow_left, div-lt_iff_lt-mul}
use native.Mathlib.Numerals.{add-one}
use native.Mathlib.Omega.{arith}
use mathlib.Core.Bool.{Bool, true, false, not, cond}
use lib.Dec.{T, leb, eqb, leb→le, nleb→lt, eqb→eq}
use lib.Arith.{lt_of_le-ne}
use lib.Pow.{pow-add, pow_pos}
use lib.Ieee.{Float, nan, inf, fin, binary32, up, down, size, round}
use lib.Ieee.Digits.{size-lt}
use lib.Ieee.Fits.{down_pos, eq→eqb}
use lib.Ieee.Scale.{round_same}
use lib.Ieee.Positive.{positive}
use lib.Ieee.Exact.{HasValue}
use Rattle.lists.proofs.Naturals.{le_or_lt}
use Rattle.ieee.specs.Root.{root_in, root, halves, sqrt}
use Rattle.packing.proofs.Open.{round_sticky}

-- ---- squares
pub twice_square : (x : ℕ) → 2 * x * (2 * x) ≡ 4 * (x * x)
twice_square x = mul_assoc 2 x (2 * x) ∙ ap (λ (y : ℕ). 2 * y) (mul_left_comm x 2 x) ∙ sym (mul_assoc 2 2 (x * x))

pub square_le : (a b : ℕ) → a * a < b * b → a < b
square_le a b h = lt_of_not-le (λ (g : b ≤ a). not-le_of_lt h (mul-le-mul g g))

square_eq : (a b : ℕ) → a * a ≡ b * b → a ≡ b
square_eq a b h = elim (le_or_lt a b) [
  | inl l ↦ elim (le_or_lt b a) [ inl g ↦ le_antisymm l g | inr g ↦ absurd (not-le_of_lt (strict a b g) (le_of_eq (sym h))) ]
  | inr l ↦ absurd (not-le_of_lt (strict b a l) (le_of_eq h))
]
  where
    strict : (x y : ℕ) → x < y → x * x < y * y
    strict x y g = lt_of_le_of_lt (mul-le-mul_left x (le_of_lt g)) (mul-lt-mul_of_pos_right g (lt_of_le_of_lt zero-le g))

abbrev Rooted : ℕ → ℕ → Type 0
Rooted n r = (r * r ≤ n) × (n < suc r * suc r)

step : (n q : ℕ) → Rooted (n / 4) q → Rooted n (2 * q + cond (leb (suc (2 * q) * suc (2 * q)) n) 1 0)
step n q (lo, hi) = go (leb (suc (2 * q) * suc (2 * q)) n) (leb→le (suc (2 * q) * suc (2 * q)) n) (nleb→lt (suc (2 * q) * suc (2 * q)) n)
  where
    below : 2 * q * (2 * q) ≤ n
    below = omega (arith, twice_square q)

    next : 2 * suc q ≡ suc (suc (2 * q))
    next = omega arith

    above : n < suc (suc (2 * q)) * suc (suc (2 * q))
    above = subst (λ (x : ℕ). n < x * x) next (omega (arith, twice_square (suc q)))

    go : (b : Bool) → (T b → suc (2 * q) * suc (2 * q) ≤ n) → (T (not b) → n < suc (2 * q) * suc (2 * q)) → Rooted n (2 * q + cond b 1 0)
    go true f g = subst (Rooted n) (sym (add-one (2 * q))) (f tt, above)
    go false f g = subst (Rooted n) (sym (add-zero (2 * q))) (below, g tt)

rooted : (k n : ℕ) → n < 4 ^ k → Rooted n (root_in k n)
unfolding root_in
rooted zero n h = (zero-le, h)
rooted (suc k) n h = step n (root_in k (n / 4)) (rooted k (n / 4) ((div-lt_iff_lt-mul (zero-lt-suc 3)).1 (subst (λ (x : ℕ). n < x) (pow-suc 4 k) h)))

root_law : (n : ℕ) → Rooted n (root n)
unfolding root
root_law n = rooted (size n) n (lt_of_lt_of_le (size-lt n) (pow-le-pow_left {n = 2} {m = 4} (omega arith) (size n)))

-- ---- what `halves` says: twice the root R, exactly, or one more where n is no square
abbrev pub Halves : ℕ → ℕ → Type 0
Halves n H = ((R : ℕ) × (H ≡ 2 * R) × (R * R ≡ n)) ⊎ ((R : ℕ) × (H ≡ 2 * R + 1) × (R * R < n) × (n < suc R * suc R))

pub halves_law : (n : ℕ) → Halves n (halves n)
unfolding halves
halves_law n = go (eqb (root n * root n) n) (eqb→eq (root n * root n) n) (λ e. eq→eqb e) (root_law n)
  where
    go : (b : Bool) → (T b → root n * root n ≡ n) → (root n * root n ≡ n → T b) → Rooted n (root n) → Halves n (2 * root n + cond b 0 1)
    go true f g r = inl (root n, add-zero (2 * root n), f tt)
    go false f g r = inr (root n, refl, lt_of_le-ne r.0 g, r.1)

-- ---- the root r of a, with a * 4 ^ g = 4 * n, places twice the root of n between r * 2 ^ g and (r + 1) * 2 ^ g
square_pow : (r G : ℕ) → r * G * (r * G) ≡ r * r * (G * G)
square_pow r G = simp (mul_assoc, mul_comm, mul_left_comm)

-- G is 2 ^ g, and twice K
module _ (n a r G K H : ℕ) (two : G ≡ K * 2) (same : a * (G * G) ≡ 4 * n) (P : 0 < G * G) (h : Halves n H) where
  -- r * G is even
  twice : (x : ℕ) → x * G ≡ 2 * (x * K)
  twice x = ap (λ (y : ℕ). x * y) two ∙ sym (mul_assoc x K 2) ∙ mul_comm (x * K) 2

  under : (x y : ℕ) → x * x < a → 4 * n ≤ 2 * y * (2 * y) → x * G < 2 * y
  under x y u v = square_le (x * G) (2 * y) (lt_of_le_of_lt (le_of_eq (square_pow x G)) (lt_of_lt_of_le (mul-lt-mul_of_pos_right u P) (le_trans (le_of_eq same) v)))

  over : (x y : ℕ) → a < x * x → 2 * y * (2 * y) ≤ 4 * n → 2 * y < x * G
  over x y u v = square_le (2 * y) (x * G) (lt_of_le_of_lt v (lt_of_le_of_lt (le_of_eq (sym same)) (lt_of_lt_of_le (mul-lt-mul_of_pos_right u P) (le_of_eq (sym (square_pow x G))))))

  pub root_open : r * r < a → a < suc r * suc r → (r * G < H) × (H < suc r * G)
  root_open u v = go h
    where
      go : Halves n H → (r * G < H) × (H < suc r * G)
      go (inl (R, w, e)) = (
        omega (arith, under r R u (omega (arith, twice_square R))),
        omega (arith, over (suc r) R v (omega (arith, twice_square R))),
      )
      go (inr (R, w, lo, hi)) = (
        omega (arith, under r (suc R) u (omega (arith, twice_square (suc R))), twice r),
        omega (arith, over (suc r) R v (omega (arith, twice_square R)), twice (suc r)),
      )

  pub root_exact : r * r ≡ a → H ≡ r * G
  root_exact u = go h
    where
      four : r * G * (r * G) ≡ 4 * n
      four = square_pow r G ∙ ap (λ (x : ℕ). x * (G * G)) u ∙ same

      go : Halves n H → H ≡ r * G
      go (inl (R, w, e)) = w ∙ square_eq (2 * R) (r * G) (twice_square R ∙ ap (λ (x : ℕ). 4 * x) e ∙ sym four)
      go (inr (R, w, lo, hi)) =
          let l : 2 * R < r * G = square_le (2 * R) (r * G) (omega (arith, twice_square R, four)) in
          let k : r * G < 2 * suc R = square_le (r * G) (2 * suc R) (omega (arith, twice_square (suc R), four)) in
          absurd (omega (arith, twice r))

-- ---- the two roundings
module _ (n a r k : ℕ) (same : a * (2 ^ suc k * 2 ^ suc k) ≡ 4 * n) (keep : 2 ^ 24 ≤ r) where
  laws : Halves n (halves n)
  laws = halves_law n

  pub exact_case : r * r ≡ a → round binary32 false (2 * r * 2 ^ (suc k + 923)) (2 ^ 1074) ≡ round binary32 false (halves n) (2 ^ 150)
  exact_case e =
      let h : halves n ≡ r * 2 ^ suc k = root_exact n a r (2 ^ suc k) (2 ^ k) (halves n) (pow-suc 2 k) same (mul-pos (pow_pos (suc k)) (pow_pos (suc k))) laws e in
      sym (ap (λ (x : ℕ). round binary32 false x (2 ^ 150)) h
      ∙ round_same binary32 false (r * 2 ^ suc k) (2 ^ 150) (2 * r * 2 ^ (suc k + 923)) (2 ^ 1074) (pow_pos 150) (pow_pos 1074) eq)
    where
      eq : r * 2 ^ suc k * 2 ^ 1074 ≡ 2 * r * 2 ^ (suc k + 923) * 2 ^ 150
      eq = sym (ap (λ (x : ℕ). 2 * r * x * 2 ^ 150) (pow-add 2 (suc k) 923) ∙ ap (λ (x : ℕ). x * 2 ^ 150) (sym (mul_assoc (2 * r) (2 ^ suc k) (2 ^ 923)) ∙ ap (λ (x : ℕ). x * 2 ^ 923) (mul_assoc 2 r (2 ^ suc k) ∙ mul_comm 2 (r * 2 ^ suc k)) ∙ mul_assoc (r * 2 ^ suc k) 2 (2 ^ 923)) ∙ mul_assoc (r * 2 ^ suc k) (2 ^ 924) (2 ^ 150))

  pub open_case : r * r < a → a < suc r * suc r → round binary32 false ((r * 2 + 1) * 2 ^ (suc k + 923)) (2 ^ 1074) ≡ round binary32 false (halves n) (2 ^ 150)
  open_case u v =
      let w = root_open n a r (2 ^ suc k) (2 ^ k) (halves n) (pow-suc 2 k) same (mul-pos (pow_pos (suc k)) (pow_pos (suc k))) laws u v in
      sym (round_sticky binary32 false r (suc k + 923) 1074 (halves n) (2 ^ 150) (pow_pos 150) keep (
        lt_of_le_of_lt (le_of_eq (eq r)) (mul-lt-mul_of_pos_right w.0 (pow_pos 1074)),
        lt_of_lt_of_le (mul-lt-mul_of_pos_right w.1 (pow_pos 1074)) (le_of_eq (sym (eq (suc r)))),
      ))
    where
      eq : (x : ℕ) → x * 2 ^ suc (suc k + 923) * 2 ^ 150 ≡ x * 2 ^ suc k * 2 ^ 1074
      eq x =
          let e : suc (suc k + 923) ≡ suc k + 924 = omega arith in
          ap (λ (y : ℕ). x * 2 ^ y * 2 ^ 150) e ∙ ap (λ (y : ℕ). x * y * 2 ^ 150) (pow-add 2 (suc k) 924) ∙ ap (λ (y : ℕ). y * 2 ^ 150) (sym (mul_assoc x (2 ^ suc k) (2 ^ 924))) ∙ mul_assoc (x * 2 ^ suc k) (2 ^ 924) (2 ^ 150)

-- ---- a positive value's root, by any way to write its size
squared : (X D A : ℕ) → 0 < D → X * 2 ^ 149 ≡ A * D → X * 4 ^ 149 / D ≡ A * 2 ^ 149
squared X D A P h =
    ap (λ (x : ℕ). x / D) (sym (mul_assoc X (2 ^ 149) (2 ^ 149)) ∙ ap (λ (x : ℕ). x * 2 ^ 149) h ∙ mul_right_comm A D (2 ^ 149)) ∙ mul-div_cancel (A * 2 ^ 149) P

pub sqrt_is : (v : Float) (s : Bool) (A : ℕ) → T (positive v) → HasValue v s A (2 ^ 149) → sqrt binary32 v ≡ round binary32 false (halves (A * 2 ^ 149)) (2 ^ 150)
unfolding sqrt
sqrt_is nan s A p h = absurd p
sqrt_is (inf t) s A p h = absurd p
sqrt_is (fin true m e) s A p h = absurd p
sqrt_is (fin false zero e) s A p h = absurd p
sqrt_is (fin false (suc m) e) s A p h = ap (λ (x : ℕ). round binary32 false (halves x) (2 ^ 150)) (squared (suc m * up e) (down e) A (down_pos e) h.1)
