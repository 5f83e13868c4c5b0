-- A root is never half way between two numbers, so the value than which none is nearer is strictly nearest: `sqrt binary32` is the square root of IEEE 754-2019. Assumes nothing.
use mathlib.Core.Path.{◌≡◌, refl, sym, ap, ◌∙◌, subst}
use mathlib.Core.Logic.{inl, inr}
use mathlib.Core.Bool.{Bool, true, false}
use Prim.Native.Nat.{ℕ, zero, suc, ◌+◌, ◌-◌, ◌*◌, ◌%◌, ◌^◌, ◌≤◌, ◌<◌, zero-le}
use native.Mathlib.Nat.{le_refl, le_trans, le_of_eq, le_of_lt, lt_irrefl, lt_of_lt_of_le, lt_of_le_of_lt, zero-lt-suc, mul_comm, mul_assoc, mul_left_comm, mul_right_comm, add-mul, suc-mul, pow-suc, mul-le-mul_left, mul-le-mul_right, mul-lt-mul_of_pos_right, lt_of_mul-lt-mul_right, eq_of_mul-eq-mul_right, eq-or-lt_of_le}
use native.Mathlib.Omega.{arith}
use lib.Dec.{T}
use lib.IntN.{ℤ}
use lib.Pow.{pow-add, pow_pos}
use lib.Ieee.{Float, nan, inf, fin, Format, binary32, prec, emax, low, up, down, fits}
use lib.Ieee.Digits.{back}
use lib.Ieee.Exact.{HasValue}
use lib.Ieee.Fits.{two, down_pos}
use Rattle.lists.proofs.Naturals.{le_or_lt}
use Rattle.ieee.specs.Root.{sqrt}
use Rattle.ieee.specs.Rounding.{Number, Significand}
use Rattle.ieee.specs.Operations.{square, NearestRoot, IsRoot}
use Rattle.ieee.proofs.Held.{sqrt_fits}
use Rattle.ieee.proofs.InUnits.{in_units}
use Rattle.ieee_root.proofs.Rooted.{near_root}
use Rattle.ieee.proofs.Ties.{half}
use Rattle.ieee.proofs.Range.{place_le}
use Rattle.ieee.proofs.Rounded.{last, emax_pos, top_is}
use Rattle.ieee.proofs.Values.{places, stored, number_under, canonical}

ruleset ac = (mul_assoc, mul_comm, mul_left_comm)

swap : (a b : ℕ) → a + b ≡ b + a
swap a b = omega arith

square_lt : (a b : ℕ) → a < b → square a < square b
square_lt a b h = lt_of_le_of_lt (mul-le-mul_left a (le_of_lt h)) (mul-lt-mul_of_pos_right h (lt_of_le_of_lt zero-le h))

-- ---- the next number
multiple : (y j k : ℕ) → k ≤ j → y * 2 ^ j ≡ y * 2 ^ (j - k) * 2 ^ k
multiple y j k h = sym (mul_assoc y (2 ^ (j - k)) (2 ^ k) ∙ ap (λ (x : ℕ). y * x) (sym (pow-add 2 (j - k) k) ∙ ap (λ (x : ℕ). 2 ^ x) (back j k h)))

next_le : (f : Format) (c k y j : ℕ) → Significand f c k → Number f y j → c * 2 ^ k < y * 2 ^ j → suc c * 2 ^ k ≤ y * 2 ^ j
next_le f c k y j u v h =
    let e = multiple y j k (places f c k y j u v h) in
    let l : c < y * 2 ^ (j - k) = lt_of_mul-lt-mul_right (2 ^ k) (subst (λ (x : ℕ). c * 2 ^ k < x) e h) in
    le_trans (mul-le-mul_right (2 ^ k) l) (le_of_eq (sym e))

record Next (f : Format) (a : ℕ) : Type 0 where
  y : ℕ
  j : ℕ
  number : Number f y j
  is : y * 2 ^ j ≡ a

next : (f : Format) (c k : ℕ) → Significand f c k → suc c * 2 ^ k < 2 ^ (low f + suc (emax f)) → Next f (suc c * 2 ^ k)
next f c k u h = elim (eq-or-lt_of_le u.number.digits) [
  | inr l ↦ record { y = suc c; j = k; number = record { digits = l; place = u.number.place }; is = refl }
  | inl e ↦
      (let p = prec f in
      let w : 2 ^ (p - 1) * 2 ^ suc k ≡ suc c * 2 ^ k =
      ap (λ (x : ℕ). 2 ^ (p - 1) * x) (pow-suc 2 k ∙ mul_comm (2 ^ k) 2) ∙ sym (mul_assoc (2 ^ (p - 1)) 2 (2 ^ k)) ∙ ap (λ (x : ℕ). x * 2 ^ k) (sym (half p (two f)) ∙ sym e) in
      let g : suc k ≤ last f = place_le p 0 1 (last f) (two f) (zero-lt-suc 0) (2 ^ (p - 1)) (suc k) (inr (le_refl (2 ^ (p - 1)))) (lt_of_le_of_lt (le_of_eq w) (lt_of_lt_of_le h (le_of_eq (top_is f)))) in
      record { y = 2 ^ (p - 1); j = suc k; number = record { digits = let a = half p (two f) in let b = pow_pos (p - 1) in omega arith; place = under (suc k) (emax f) (emax_pos f) g }; is = w })
]
  where
    under : (j m : ℕ) → 0 < m → j ≤ 2 * m - 1 → j < 2 * m
    under j m h l = omega arith

-- ---- B = y * 2 ^ v, y of p digits and v from 2 on, is no square of a number half way between two neighbours
module _ (f : Format) (B y v : ℕ) (small : y < 2 ^ prec f) (is : B ≡ y * 2 ^ v) (v2 : 2 ≤ v) where
  mid_is : (c x : ℕ) → c * x + suc c * x ≡ suc (2 * c) * x
  mid_is c x = sym (add-mul c (suc c) x) ∙ ap (λ (z : ℕ). z * x) (omega arith)

  square_is : (o k : ℕ) → square (o * 2 ^ k) ≡ o * o * 2 ^ (k + k)
  square_is o k = shuffle o (2 ^ k) ∙ ap (λ (z : ℕ). o * o * z) (sym (pow-add 2 k k))
    where
      shuffle : (o x : ℕ) → o * x * (o * x) ≡ o * o * (x * x)
      shuffle o x = simp ac

  odd_square : (c : ℕ) → suc (2 * c) * suc (2 * c) % 2 ≡ 1
  odd_square c =
      let e : suc (2 * c) * suc (2 * c) ≡ 2 * c * suc (2 * c) + suc (2 * c) = suc-mul (2 * c) (suc (2 * c)) in
      let g : 2 * c * suc (2 * c) ≡ 2 * (c * suc (2 * c)) = mul_assoc 2 c (suc (2 * c)) in
      omega arith

  even_right : (x i : ℕ) → 0 < i → x * 2 ^ i % 2 ≡ 0
  even_right x i h =
      let e : x * 2 ^ i ≡ x * 2 ^ (i - 1) * 2 = ap (λ (z : ℕ). x * 2 ^ z) (omega arith) ∙ ap (λ (z : ℕ). x * z) (pow-suc 2 (i - 1)) ∙ sym (mul_assoc x (2 ^ (i - 1)) 2) in
      omega arith

  large : (c i : ℕ) → 2 ^ (prec f - 1) ≤ c → 2 ^ prec f ≤ suc (2 * c) * suc (2 * c) * 2 ^ i
  large c i g =
      let a : 2 ^ prec f ≤ suc (2 * c) = let w = half (prec f) (two f) in omega arith in
      let b : suc (2 * c) * 1 ≤ suc (2 * c) * suc (2 * c) = mul-le-mul_left (suc (2 * c)) (zero-lt-suc (2 * c)) in
      let d : suc (2 * c) * suc (2 * c) * 1 ≤ suc (2 * c) * suc (2 * c) * 2 ^ i = mul-le-mul_left (suc (2 * c) * suc (2 * c)) (pow_pos i) in
      omega arith

  no_middle : (c k : ℕ) → Significand f c k → B ≡ square (c * 2 ^ k + suc c * 2 ^ k) → ⊥
  no_middle c k u e =
      let o = suc (2 * c) in
      let g : y * 2 ^ v ≡ o * o * 2 ^ (k + k) = sym is ∙ e ∙ ap square (mid_is c (2 ^ k)) ∙ square_is o k in
      elim (le_or_lt v (k + k)) [
        | inl h ↦
            (let w : y ≡ o * o * 2 ^ (k + k - v) = eq_of_mul-eq-mul_right (2 ^ v) (pow_pos v) y (o * o * 2 ^ (k + k - v)) (g ∙ multiple (o * o) (k + k) v h) in
            elim u.full [
              | inl z ↦ absurd (omega arith)
              | inr l ↦ let b = large c (k + k - v) l in absurd (omega arith)
            ])
        | inr h ↦
            (let w : y * 2 ^ (v - (k + k)) ≡ o * o = eq_of_mul-eq-mul_right (2 ^ (k + k)) (pow_pos (k + k)) (y * 2 ^ (v - (k + k))) (o * o) (sym (multiple y v (k + k) (le_of_lt h)) ∙ g) in
            absurd (let a = even_right y (v - (k + k)) (omega arith) in let b = odd_square c in omega arith))
      ]

  -- the number r = c * 2 ^ k that the root of B is nearest to
  module _ (c k : ℕ) (u : Significand f c k) where
    abbrev r : ℕ
    r = c * 2 ^ k

    no_tie_above : ((i l : ℕ) → Number f i l → r < i * 2 ^ l → B ≤ square (r + i * 2 ^ l)) → (i l : ℕ) → Number f i l → r < i * 2 ^ l → B ≡ square (r + i * 2 ^ l) → ⊥
    no_tie_above near i l w h e = elim (eq-or-lt_of_le (next_le f c k i l u w h)) [
      | inl z ↦ no_middle c k u (e ∙ ap (λ (x : ℕ). square (r + x)) (sym z))
      | inr g ↦
          (let t = next f c k u (lt_of_lt_of_le g (le_of_lt (number_under f i l w))) in
          let a : r < suc c * 2 ^ k = mul-lt-mul_of_pos_right (le_refl (suc c)) (pow_pos k) in
          let b : B ≤ square (r + suc c * 2 ^ k) = subst (λ (x : ℕ). B ≤ square (r + x)) t.is (near t.y t.j t.number (subst (λ (x : ℕ). r < x) (sym t.is) a)) in
          lt_irrefl B (lt_of_le_of_lt b (lt_of_lt_of_le (square_lt (r + suc c * 2 ^ k) (r + i * 2 ^ l) (omega arith)) (le_of_eq (sym e)))))
    ]

    no_tie_below : ((i l : ℕ) → Number f i l → i * 2 ^ l < r → square (r + i * 2 ^ l) ≤ B) → (i l : ℕ) → Significand f i l → i * 2 ^ l < r → B ≡ square (r + i * 2 ^ l) → ⊥
    no_tie_below near i l w h e = elim (eq-or-lt_of_le (next_le f i l c k w u.number h)) [
      | inl z ↦ no_middle i l w (e ∙ ap (λ (x : ℕ). square (x + i * 2 ^ l)) (sym z) ∙ ap square (swap (suc i * 2 ^ l) (i * 2 ^ l)))
      | inr g ↦
          (let t = next f i l w (lt_of_lt_of_le g (le_of_lt (number_under f c k u.number))) in
          let a : i * 2 ^ l < suc i * 2 ^ l = mul-lt-mul_of_pos_right (le_refl (suc i)) (pow_pos l) in
          let b : square (r + suc i * 2 ^ l) ≤ B = subst (λ (x : ℕ). square (r + x) ≤ B) t.is (near t.y t.j t.number (subst (λ (x : ℕ). x < r) (sym t.is) g)) in
          lt_irrefl B (lt_of_le_of_lt (le_of_eq e) (lt_of_lt_of_le (square_lt (r + i * 2 ^ l) (r + suc i * 2 ^ l) (omega arith)) b)))
    ]

strict : (a b : ℕ) → a ≤ b → (a ≡ b → ⊥) → a < b
strict a b h n = elim (eq-or-lt_of_le h) [ inl e ↦ absurd (n e) | inr l ↦ l ]

-- ---- the root of X / De, which is y0 * 2 ^ j0 units; r is R units, and none is nearer
module _ (f : Format) (X De : ℕ) (D : 0 < De) (y0 j0 : ℕ) (small : y0 < 2 ^ prec f) (x : X * 2 ^ low f ≡ y0 * 2 ^ j0 * De) (R : ℕ)
    (up_to_lem : (y j : ℕ) → y < 2 ^ prec f → R < y * 2 ^ j → 4 * (y0 * 2 ^ j0 * 2 ^ low f) ≤ square (R + y * 2 ^ j))
    (down_to : (y j : ℕ) → y < 2 ^ prec f → y * 2 ^ j < R → square (R + y * 2 ^ j) ≤ 4 * (y0 * 2 ^ j0 * 2 ^ low f)) where
  abbrev L : ℕ
  L = 2 ^ low f

  abbrev B : ℕ
  B = 4 * (y0 * 2 ^ j0 * 2 ^ low f)

  B_is : B ≡ y0 * 2 ^ (j0 + low f + 2)
  B_is = power y0 j0 (low f)
    where
      power : (y j l : ℕ) → 4 * (y * 2 ^ j * 2 ^ l) ≡ y * 2 ^ (j + l + 2)
      power y j l =
          let a : 2 ^ (j + l + 2) ≡ 2 ^ j * 2 ^ l * 4 = pow-add 2 (j + l) 2 ∙ ap (λ (x : ℕ). x * 4) (pow-add 2 j l) in
          mul_comm 4 (y * 2 ^ j * 2 ^ l) ∙ mul_assoc (y * 2 ^ j) (2 ^ l) 4 ∙ mul_assoc y (2 ^ j) (2 ^ l * 4) ∙ ap (λ (x : ℕ). y * x) (sym (mul_assoc (2 ^ j) (2 ^ l) 4) ∙ sym a)

  all : 4 * (X * square L) ≡ B * De
  all = four X L (y0 * 2 ^ j0) De x
    where
      four : (X l A D : ℕ) → X * l ≡ A * D → 4 * (X * (l * l)) ≡ 4 * (A * l) * D
      four X l A D h = ap (λ (x : ℕ). 4 * x) (sym (mul_assoc X l l) ∙ ap (λ (x : ℕ). x * l) h ∙ mul_right_comm A D l) ∙ sym (mul_assoc 4 (A * l) D)

  root_of_lem : (s : Bool) (n : ℕ) (d : ℤ) → T (fits f (fin s n d)) → HasValue (fin s n d) false R L → NearestRoot f X De (fin s n d)
  root_of_lem s n d held v =
      let r = stored f s n d held in
      let e : R ≡ r.c * 2 ^ r.k = eq_of_mul-eq-mul_right (down d) (down_pos d) R (r.c * 2 ^ r.k) (sym v.1 ∙ r.size) in
      let near_above : (y j : ℕ) → Number f y j → r.c * 2 ^ r.k < y * 2 ^ j → B ≤ square (r.c * 2 ^ r.k + y * 2 ^ j) = λ y j u h. rw e at (up_to_lem y j u.digits (rw e h)) in
      let near_below : (y j : ℕ) → Number f y j → y * 2 ^ j < r.c * 2 ^ r.k → square (r.c * 2 ^ r.k + y * 2 ^ j) ≤ B = λ y j u h. rw e at (down_to y j u.digits (rw e h)) in
      record {
        c = r.c;
        k = r.k;
        held = held;
        sign = v.0;
        significand = r.significand;
        size = r.size;
        above = λ y j u h.
            lt_of_le_of_lt (le_of_eq all)
            (mul-lt-mul_of_pos_right (strict B (square (r.c * 2 ^ r.k + y * 2 ^ j)) (near_above y j u h) (no_tie_above f B y0 (j0 + low f + 2) small B_is (omega arith) r.c r.k r.significand near_above y j u h)) D);
        below = λ y j u h.
            (let z = canonical f y j u in
            lt_of_lt_of_le
            (mul-lt-mul_of_pos_right (strict (square (r.c * 2 ^ r.k + y * 2 ^ j)) B (near_below y j u h)
            (λ i. no_tie_below f B y0 (j0 + low f + 2) small B_is (omega arith) r.c r.k r.significand near_below z.0 z.1 z.2
            (subst (λ (a : ℕ). a < r.c * 2 ^ r.k) (sym z.3) h) (sym i ∙ ap (λ (a : ℕ). square (r.c * 2 ^ r.k + a)) (sym z.3)))) D)
            (le_of_eq (sym all)));
      }

  rooted : (r : Float) → T (fits f r) → HasValue r false R L → NearestRoot f X De r
  rooted nan h v = absurd v
  rooted (inf s) h v = absurd v
  rooted (fin s n d) h v = root_of_lem s n d h v

pub root_ieee : (x : Float) → T (fits binary32 x) → IsRoot binary32 x (sqrt binary32 x)
unfolding sqrt
root_ieee nan t = refl
root_ieee (inf true) t = refl
root_ieee (inf false) t = refl
root_ieee (fin s zero e) t = refl
root_ieee (fin true (suc m) e) t = refl
root_ieee (fin false (suc m) e) t =
    let u = in_units binary32 false (suc m) e t in
    let w = near_root m e (u.0 * 2 ^ u.1) t u.3 in
    rooted binary32 (suc m * up e) (down e) (down_pos e) u.0 u.1 u.2 u.3 w.R w.above w.below (sqrt binary32 (fin false (suc m) e)) (sqrt_fits binary32 (fin false (suc m) e) t) w.value
