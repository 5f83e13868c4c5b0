-- A finite f32 is below another where its place is below the other's, and nowhere else. Assumes nothing.
use Prim.Native.Nat.{ℕ, zero, suc, ◌+◌, ◌*◌, ◌/◌, ◌%◌, ◌^◌, ◌<◌, ◌≤◌}
use mathlib.Core.Path.{◌≡◌, refl, sym, ap, ap₂, ◌∙◌, subst}
use mathlib.Core.Bool.{Bool, true, false}
use mathlib.Core.Logic.{⊎_elim}
use native.Mathlib.Nat.{le_trans, le_of_eq, lt_of_lt_of_le, mul_comm, mul_assoc, mul_right_comm, mul-pos, zero-mul, pow-suc, mul-le-mul_left, mul-le-mul_right, mul-lt-mul_of_pos_right, lt_of_mul-lt-mul_right, eq-or-lt_of_le, eq-zero-or-pos, le_of_lt}
use native.Mathlib.Omega.{arith}
use borrow.Author.Tests.{ltb-true, lt-ltb, le-ltb, leb-true, leb-false}
use lib.Dec.{T, leb, ltb}
use lib.Pow.{pow_pos, pow_mono}
use lib.Ieee.{Float, nan, inf, fin, binary32, up, down, below, lt, fits}
use lib.Ieee.Bits.{of_bits-fits, to_bits-of_bits}
use lib.Ieee.Exact.{HasValue}
use lib.Ieee.Fits.{down_pos}
use lib.Ieee.Scale.{finite}
use Rattle.lists.proofs.Bools.{both_ways}
use Rattle.lists.proofs.Naturals.{le_or_lt}
use Rattle.packing.proofs.Fields.{value_low, value_normal, finite_no_nan}
use Rattle.ieee.specs.F32.{f32, bits_of}
use Rattle.ieee.proofs.SignedParts.{plus, minus}
use Rattle.thin_order.specs.Place.{place, PlaceRule}

-- ---- sizes in units of 2 ^ -149

-- from the exponent's field and the digits
abbrev sized : ℕ → ℕ → ℕ
sized zero t = t * 2 ^ 0
sized (suc x) t = (2 ^ 23 + t) * 2 ^ x

-- of the bits without the sign
abbrev units : ℕ → ℕ
units m = sized (m / 2 ^ 23) (m % 2 ^ 23)

-- a higher field outweighs any digits
next : (x t y u : ℕ) → t < 2 ^ 23 → x < y → (2 ^ 23 + t) * 2 ^ x < (2 ^ 23 + u) * 2 ^ y
next x t y u l h =
    let a : (2 ^ 23 + t) * 2 ^ x < 2 ^ 24 * 2 ^ x = mul-lt-mul_of_pos_right (omega arith) (pow_pos x) in
    let b : 2 ^ 24 * 2 ^ x ≡ 2 ^ 23 * 2 ^ suc x = mul_assoc (2 ^ 23) 2 (2 ^ x) ∙ ap (λ (z : ℕ). 2 ^ 23 * z) (mul_comm 2 (2 ^ x) ∙ sym (pow-suc 2 x)) in
    let c : 2 ^ 23 * 2 ^ suc x ≤ 2 ^ 23 * 2 ^ y = mul-le-mul_left (2 ^ 23) (pow_mono h) in
    let d : 2 ^ 23 * 2 ^ y ≤ (2 ^ 23 + u) * 2 ^ y = mul-le-mul_right (2 ^ y) (omega arith) in
    lt_of_lt_of_le a (le_trans (le_of_eq b) (le_trans c d))

rising : (x t y u : ℕ) → t < 2 ^ 23 → x * 2 ^ 23 + t < y * 2 ^ 23 + u → u < 2 ^ 23 → sized x t < sized y u
rising zero t zero u l h k = omega arith
rising zero t (suc y) u l h k = let p = mul-le-mul_left (2 ^ 23 + u) (pow_pos y) in omega arith
rising (suc x) t zero u l h k = absurd (omega arith)
rising (suc x) t (suc y) u l h k = ⊎_elim same (next x t y u l) (eq-or-lt_of_le (omega arith))
  where
    same : x ≡ y → (2 ^ 23 + t) * 2 ^ x < (2 ^ 23 + u) * 2 ^ y
    same e = subst (λ (z : ℕ). (2 ^ 23 + t) * 2 ^ x < (2 ^ 23 + u) * 2 ^ z) e (mul-lt-mul_of_pos_right (omega arith) (pow_pos x))

units_rise : (m n : ℕ) → m < n → units m < units n
units_rise m n h = rising (m / 2 ^ 23) (m % 2 ^ 23) (n / 2 ^ 23) (n % 2 ^ 23) (omega arith) (omega arith) (omega arith)

units_keep : (m n : ℕ) → m ≤ n → units m ≤ units n
units_keep m n h = ⊎_elim (λ e. le_of_eq (ap units e)) (λ l. le_of_lt (units_rise m n l)) (eq-or-lt_of_le h)

-- ---- fractions of these units are in the order of the bits, with signs before both

ltb_same : (a b c d : ℕ) → (a < b → c < d) → (c < d → a < b) → ltb a b ≡ ltb c d
ltb_same a b c d f g = both_ways (ltb a b) (ltb c d) (λ h. lt-ltb c d (f (ltb-true a b h))) (λ h. lt-ltb a b (g (ltb-true c d h)))

-- of two numbers one is above 0
some : (p q m n : ℕ) → (0 < p → 0 < m) → (0 < q → 0 < n) → 0 < p + q → 0 < m + n
some p q m n f g h = ⊎_elim (λ z. let k = g (omega arith) in omega arith) (λ l. let k = f l in omega arith) (eq-zero-or-pos p)

module _ (c k : ℕ) (C : 0 < c) (K : 0 < k) where
  -- p / k and units m / c are one fraction
  abbrev Says : ℕ → ℕ → Type 0
  Says p m = p * c ≡ units m * k

  up_from : (p m q n : ℕ) → Says p m → Says q n → m < n → p < q
  up_from p m q n v w h = lt_of_mul-lt-mul_right c (subst (λ (z : ℕ). z < q * c) (sym v) (subst (λ (z : ℕ). units m * k < z) (sym w) (mul-lt-mul_of_pos_right (units_rise m n h) K)))

  up_to : (p m q n : ℕ) → Says p m → Says q n → p < q → m < n
  up_to p m q n v w h = ⊎_elim back (λ l. l) (le_or_lt n m)
    where
      back : n ≤ m → m < n
      back l =
          let a = mul-lt-mul_of_pos_right h C in
          let b = mul-le-mul_right k (units_keep n m l) in
          absurd (omega (arith, v, w))

  below_bits : (s t : Bool) (p m q n : ℕ) → Says p m → Says q n → below s p t q ≡ below s m t n
  below_bits false false p m q n v w = ltb_same p q m n (up_to p m q n v w) (up_from p m q n v w)
  below_bits false true p m q n v w = refl
  below_bits true true p m q n v w = ltb_same q p n m (up_to q n p m w v) (up_from q n p m w v)
  below_bits true false p m q n v w = ltb_same 0 (p + q) 0 (m + n) (some p q m n (up_to 0 0 p m z v) (up_to 0 0 q n z w)) (some m n p q (up_from 0 0 p m z v) (up_from 0 0 q n z w))
    where
      z : Says 0 0
      z = zero-mul c ∙ sym (zero-mul k)

-- ---- so are floats, each by its bits without the sign, m and n

cross : (a d c A U : ℕ) → a * U ≡ A * c → a * d * U ≡ A * (c * d)
cross a d c A U h = mul_right_comm a d U ∙ ap (λ (z : ℕ). z * d) h ∙ mul_assoc A c d

lt_bits : (U : ℕ) → 0 < U → (x y : Float) (s t : Bool) (m n : ℕ) → HasValue x s (units m) U → HasValue y t (units n) U → lt x y ≡ below s m t n
unfolding lt
lt_bits U P nan y s t m n h k = absurd h
lt_bits U P (inf s') y s t m n h k = absurd h
lt_bits U P (fin s' i e) nan s t m n h k = absurd k
lt_bits U P (fin s' i e) (inf t') s t m n h k = absurd k
lt_bits U P (fin s' i e) (fin t' j d) s t m n h k =
    below_bits U (down e * down d) P (mul-pos (down_pos e) (down_pos d)) s' t' (i * up e * down d) m (j * up d * down e) n
    (cross (i * up e) (down d) (down e) (units m) U h.1) (cross (j * up d) (down e) (down d) (units n) U k.1 ∙ ap (λ (z : ℕ). units n * z) (mul_comm (down d) (down e)))
    ∙ ap₂ (λ (a b : Bool). below a m b n) h.0 k.0

by_field : (v : Float) → T (fits binary32 v) → finite v ≡ true → (x : ℕ) → bits_of v % 2 ^ 31 / 2 ^ 23 ≡ x → HasValue v (leb (2 ^ 31) (bits_of v)) (sized x (bits_of v % 2 ^ 23)) (2 ^ 149)
by_field v held ends zero e = value_low binary32 v held ends e
by_field v held ends (suc x) e = value_normal binary32 v held ends x e

valued : (w : ℕ) → w < 2 ^ 32 → finite (f32 w) ≡ true → HasValue (f32 w) (leb (2 ^ 31) w) (units (w % 2 ^ 31)) (2 ^ 149)
valued w small ends =
    subst (λ (t : ℕ). HasValue (f32 w) (leb (2 ^ 31) w) (sized (w % 2 ^ 31 / 2 ^ 23) t) (2 ^ 149)) digits
    (subst (λ (b : ℕ). HasValue (f32 w) (leb (2 ^ 31) b) (sized (b % 2 ^ 31 / 2 ^ 23) (b % 2 ^ 23)) (2 ^ 149)) (to_bits-of_bits binary32 w small (finite_no_nan (f32 w) ends))
    (by_field (f32 w) (of_bits-fits binary32 w) ends (bits_of (f32 w) % 2 ^ 31 / 2 ^ 23) refl))
  where
    digits : w % 2 ^ 23 ≡ w % 2 ^ 31 % 2 ^ 23
    digits = omega arith

-- ---- and places

-- 2 ^ 31 and the bits without the sign, or less them where the sign is set
placed : (w : ℕ) (s : Bool) → w < 2 ^ 32 → leb (2 ^ 31) w ≡ s → place w + minus s (w % 2 ^ 31) ≡ 2 ^ 31 + plus s (w % 2 ^ 31)
unfolding place
placed w true small e = let l = leb-true (2 ^ 31) w e in rw (le-ltb w (2 ^ 31) l) (omega arith)
placed w false small e = let l = leb-false (2 ^ 31) w e in rw (lt-ltb w (2 ^ 31) l) (omega arith)

below_places : (s t : Bool) (m n P Q : ℕ) → P + minus s m ≡ 2 ^ 31 + plus s m → Q + minus t n ≡ 2 ^ 31 + plus t n → below s m t n ≡ ltb P Q
below_places false false m n P Q h k = ltb_same m n P Q (λ l. omega arith) (λ l. omega arith)
below_places false true m n P Q h k = sym (le-ltb P Q (omega arith))
below_places true false m n P Q h k = ltb_same 0 (m + n) P Q (λ l. omega arith) (λ l. omega arith)
below_places true true m n P Q h k = ltb_same n m P Q (λ l. omega arith) (λ l. omega arith)

pub place_rule : PlaceRule
place_rule a b A B f g =
    lt_bits (2 ^ 149) (pow_pos 149) (f32 a) (f32 b) (leb (2 ^ 31) a) (leb (2 ^ 31) b) (a % 2 ^ 31) (b % 2 ^ 31) (valued a A f) (valued b B g)
    ∙ below_places (leb (2 ^ 31) a) (leb (2 ^ 31) b) (a % 2 ^ 31) (b % 2 ^ 31) (place a) (place b) (placed a (leb (2 ^ 31) a) A refl) (placed b (leb (2 ^ 31) b) B refl)
