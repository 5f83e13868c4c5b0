-- The order of floats: it is that of the fractions that they stand for, with their signs; it is total and transitive but for a not-a-number; and rounding keeps it.
-- For both formats. Assumes nothing.
use Rattle.std.proofs.Common.{◌≡◌, ℕ, zero, suc, ◌+◌, ◌*◌, ◌^◌, ◌<◌, ◌≤◌, Bool, true, false, cond, not, ◌&&◌, ◌||◌, T, eqb, ltb, ◌⊎◌, ℤ, pos, sym, refl, ◌∙◌, inl, inr, ⊎_elim, true≢false, le_trans, le_of_eq, mul-le-mul_right, add-mul, eq-zero-or-pos, mul-pos, zero-mul, mul_right_comm, le_of_mul-le-mul_right, arith, ltb-false, ltb-true, lt-ltb, eq-eqb, ne_eqb, eqb-true}
use mathlib.Core.Bool.{false≢true}
use borrow.Author.Tests.{eqb-false}
use lib.Ieee.{Float, nan, inf, fin, Format, prec, emax, low, up, down, odd, units, round, neg, below, level, lt, eq, le, is_nan}
use lib.Ieee.Fits.{down_pos}
use lib.Ieee.Bits.{is_true}
use lib.Ieee.Order.{round_mono}
use Rattle.lists.proofs.Bools.{and_left, and_right, both_and, or_right, or_cases}
use Rattle.ieee_laws.specs.Sign.{turned}
use Rattle.ieee.proofs.SignedParts.{round_zero, plus, minus, plus_mul, minus_mul}
use Rattle.ieee_laws.proofs.Turned.{round_turned, le_turned, neg_opp}

-- ±a / c ≤ ±b / d, and ±a / c < ±b / d, with the denominators multiplied out
pub record Leq (s : Bool) (a c : ℕ) (t : Bool) (b d : ℕ) : Type 0 where
  pub cross : plus s a * d + minus t b * c ≤ plus t b * c + minus s a * d

pub record Less (s : Bool) (a c : ℕ) (t : Bool) (b d : ℕ) : Type 0 where
  pub cross : plus s a * d + minus t b * c < plus t b * c + minus s a * d

-- ---- the tests of `lib.Ieee` are this order

test_le : (s t : Bool) (x y : ℕ) → (below s x t y || level s x t y) ≡ true → plus s x + minus t y ≤ plus t y + minus s x
test_le false false x y h = ⊎_elim (λ l. let k = ltb-true x y l in omega arith) (λ l. let k = eqb-true x y (and_left (eqb x y) true l) in omega arith) (or_cases (ltb x y) (eqb x y && true) h)
test_le false true x y h =
    let k = eqb-true x y (and_left (eqb x y) (eqb x 0) h) in
    let l = eqb-true x 0 (and_right (eqb x y) (eqb x 0) h) in
    omega arith
test_le true false x y h = omega arith
test_le true true x y h = ⊎_elim (λ l. let k = ltb-true y x l in omega arith) (λ l. let k = eqb-true x y (and_left (eqb x y) true l) in omega arith) (or_cases (ltb y x) (eqb x y && true) h)

or_left : (a b : Bool) → a ≡ true → (a || b) ≡ true
or_left true b h = refl
or_left false b h = absurd (false≢true h)

least : (x y : ℕ) → x ≤ y → (ltb x y || (eqb x y && true)) ≡ true
least x y h = go (ltb x y) refl
  where
    go : (b : Bool) → ltb x y ≡ b → (ltb x y || (eqb x y && true)) ≡ true
    go true e = or_left (ltb x y) (eqb x y && true) e
    go false e = let k = ltb-false x y e in or_right (ltb x y) (eqb x y && true) (both_and (eqb x y) true (eq-eqb x y (omega arith)) refl)

eqb_turn : (x y : ℕ) → eqb x y ≡ eqb y x
eqb_turn x y = go (eqb y x) refl
  where
    go : (b : Bool) → eqb y x ≡ b → eqb x y ≡ eqb y x
    go true e = eq-eqb x y (sym (eqb-true y x e)) ∙ sym e
    go false e = ne_eqb x y (λ z. eqb-false y x e (sym z)) ∙ sym e

le_test : (s t : Bool) (x y : ℕ) → plus s x + minus t y ≤ plus t y + minus s x → (below s x t y || level s x t y) ≡ true
le_test false false x y h = least x y (omega arith)
le_test false true x y h = both_and (eqb x y) (eqb x 0) (eq-eqb x y (omega arith)) (eq-eqb x 0 (omega arith))
le_test true false x y h = go (eq-zero-or-pos (x + y))
  where
    go : ((x + y) ≡ 0) ⊎ (0 < x + y) → (ltb 0 (x + y) || (eqb x y && (false || eqb x 0))) ≡ true
    go (inl z) = or_right (ltb 0 (x + y)) (eqb x y && eqb x 0) (both_and (eqb x y) (eqb x 0) (eq-eqb x y (omega arith)) (eq-eqb x 0 (omega arith)))
    go (inr p) = or_left (ltb 0 (x + y)) (eqb x y && eqb x 0) (lt-ltb 0 (x + y) p)
le_test true true x y h = rw (eqb_turn x y) (least y x (omega arith))

test_lt : (s t : Bool) (x y : ℕ) → below s x t y ≡ true → plus s x + minus t y < plus t y + minus s x
test_lt false false x y h = let k = ltb-true x y h in omega arith
test_lt false true x y h = absurd (false≢true h)
test_lt true false x y h = let k = ltb-true 0 (x + y) h in omega arith
test_lt true true x y h = let k = ltb-true y x h in omega arith

lt_test : (s t : Bool) (x y : ℕ) → plus s x + minus t y < plus t y + minus s x → below s x t y ≡ true
lt_test false false x y h = lt-ltb x y (omega arith)
lt_test false true x y h = absurd (omega arith)
lt_test true false x y h = lt-ltb 0 (x + y) (omega arith)
lt_test true true x y h = lt-ltb y x (omega arith)

pub le_fin : (s : Bool) (m : ℕ) (e : ℤ) (t : Bool) (n : ℕ) (d : ℤ) → le (fin s m e) (fin t n d) ≡ true → Leq s (m * up e) (down e) t (n * up d) (down d)
unfolding le
le_fin s m e t n d h =
    record { cross = rw (← plus_mul s (m * up e) (down d), ← minus_mul t (n * up d) (down e), ← plus_mul t (n * up d) (down e), ← minus_mul s (m * up e) (down d)) (test_le s t (m * up e * down d) (n * up d * down e) h) }

pub fin_le : (s : Bool) (m : ℕ) (e : ℤ) (t : Bool) (n : ℕ) (d : ℤ) → Leq s (m * up e) (down e) t (n * up d) (down d) → le (fin s m e) (fin t n d) ≡ true
unfolding le
fin_le s m e t n d h =
    le_test s t (m * up e * down d) (n * up d * down e)
    (rw (plus_mul s (m * up e) (down d), minus_mul t (n * up d) (down e), plus_mul t (n * up d) (down e), minus_mul s (m * up e) (down d)) h.cross)

pub lt_fin : (s : Bool) (m : ℕ) (e : ℤ) (t : Bool) (n : ℕ) (d : ℤ) → lt (fin s m e) (fin t n d) ≡ true → Less s (m * up e) (down e) t (n * up d) (down d)
unfolding lt
lt_fin s m e t n d h =
    record { cross = rw (← plus_mul s (m * up e) (down d), ← minus_mul t (n * up d) (down e), ← plus_mul t (n * up d) (down e), ← minus_mul s (m * up e) (down d)) (test_lt s t (m * up e * down d) (n * up d * down e) h) }

pub fin_lt : (s : Bool) (m : ℕ) (e : ℤ) (t : Bool) (n : ℕ) (d : ℤ) → Less s (m * up e) (down e) t (n * up d) (down d) → lt (fin s m e) (fin t n d) ≡ true
unfolding lt
fin_lt s m e t n d h =
    lt_test s t (m * up e * down d) (n * up d * down e)
    (rw (plus_mul s (m * up e) (down d), minus_mul t (n * up d) (down e), plus_mul t (n * up d) (down e), minus_mul s (m * up e) (down d)) h.cross)

-- ---- transitive, and total but for a not-a-number

abbrev Cross : ℕ → ℕ → ℕ → ℕ → ℕ → ℕ → Type 0
Cross X X' p B B' q = X * q + B' * p ≤ B * p + X' * q

scaled : (X X' B B' p q r : ℕ) → Cross X X' p B B' q → X * q * r + B' * p * r ≤ B * p * r + X' * q * r
scaled X X' B B' p q r h = le_trans (le_of_eq (sym (add-mul (X * q) (B' * p) r))) (le_trans (mul-le-mul_right r h) (le_of_eq (add-mul (B * p) (X' * q) r)))

-- the numbers are X - X' over p, B - B' over q, C - C' over r
cross_trans : (X X' B B' C C' p q r : ℕ) → 0 < q → Cross X X' p B B' q → Cross B B' q C C' r → Cross X X' p C C' r
cross_trans X X' B B' C C' p q r Q h k =
    let u = scaled X X' B B' p q r h in
    let v = scaled B B' C C' q r p k in
    let w : (X * r + C' * p) * q ≤ (C * p + X' * r) * q =
    rw (add-mul (X * r) (C' * p) q, add-mul (C * p) (X' * r) q)
    (omega (arith, mul_right_comm X q r, mul_right_comm X' q r, mul_right_comm B r p, mul_right_comm B' r p, mul_right_comm C q p, mul_right_comm C' q p)) in
    le_of_mul-le-mul_right w Q

pub le_trans_float : (x y z : Float) → le x y ≡ true → le y z ≡ true → le x z ≡ true
unfolding le
le_trans_float nan y z h k = absurd (false≢true h)
le_trans_float (inf false) nan z h k = absurd (false≢true h)
le_trans_float (inf false) (inf true) z h k = absurd (false≢true h)
le_trans_float (inf false) (inf false) z h k = k
le_trans_float (inf false) (fin t n d) z h k = absurd (false≢true h)
le_trans_float (inf true) y (inf true) h k = refl
le_trans_float (inf true) y (inf false) h k = refl
le_trans_float (inf true) y (fin u o g) h k = refl
le_trans_float (inf true) nan nan h k = k
le_trans_float (inf true) (inf t) nan h k = k
le_trans_float (inf true) (fin t n d) nan h k = k
le_trans_float (fin s m e) nan z h k = absurd (false≢true h)
le_trans_float (fin s m e) (inf true) z h k = absurd (false≢true h)
le_trans_float (fin s m e) (inf false) nan h k = k
le_trans_float (fin s m e) (inf false) (inf true) h k = k
le_trans_float (fin s m e) (inf false) (inf false) h k = refl
le_trans_float (fin s m e) (inf false) (fin u o g) h k = absurd (false≢true k)
le_trans_float (fin s m e) (fin t n d) nan h k = k
le_trans_float (fin s m e) (fin t n d) (inf true) h k = k
le_trans_float (fin s m e) (fin t n d) (inf false) h k = refl
le_trans_float (fin s m e) (fin t n d) (fin u o g) h k =
    fin_le s m e u o g
    (record {
      cross = cross_trans (plus s (m * up e)) (minus s (m * up e)) (plus t (n * up d)) (minus t (n * up d)) (plus u (o * up g)) (minus u (o * up g)) (down e) (down d) (down g) (down_pos d)
          (le_fin s m e t n d h).cross (le_fin t n d u o g k).cross;
    })

pub lt_le : (x y : Float) → lt x y ≡ true → le x y ≡ true
unfolding le
lt_le x y h = or_left (lt x y) (eq x y) h

pub le_refl_float : (x : Float) → T (not (is_nan x)) → le x x ≡ true
unfolding le is_nan
le_refl_float nan h = absurd h
le_refl_float (inf true) h = refl
le_refl_float (inf false) h = refl
le_refl_float (fin s m e) h = fin_le s m e s m e (record { cross = omega arith })

less_not : (s : Bool) (a c : ℕ) (t : Bool) (b d : ℕ) → (Leq s a c t b d → ⊥) → Less t b d s a c
less_not s a c t b d h = ⊎_elim (λ l. absurd (h (record { cross = l }))) (λ l. record { cross = l }) (split (plus s a * d + minus t b * c) (plus t b * c + minus s a * d))
  where
    split : (x y : ℕ) → (x ≤ y) ⊎ (y < x)
    split x y = go (ltb y x) refl
      where
        go : (b : Bool) → ltb y x ≡ b → (x ≤ y) ⊎ (y < x)
        go true e = inr (ltb-true y x e)
        go false e = inl (ltb-false y x e)

-- what is not at most y is above y
pub le_or_lt_float : (x y : Float) → T (not (is_nan x)) → T (not (is_nan y)) → (le x y ≡ true) ⊎ (lt y x ≡ true)
unfolding le is_nan
le_or_lt_float nan y h k = absurd h
le_or_lt_float (inf s) nan h k = absurd k
le_or_lt_float (inf true) (inf true) h k = inl refl
le_or_lt_float (inf true) (inf false) h k = inl refl
le_or_lt_float (inf false) (inf true) h k = inr refl
le_or_lt_float (inf false) (inf false) h k = inl refl
le_or_lt_float (inf true) (fin t n d) h k = inl refl
le_or_lt_float (inf false) (fin t n d) h k = inr refl
le_or_lt_float (fin s m e) nan h k = absurd k
le_or_lt_float (fin s m e) (inf true) h k = inr refl
le_or_lt_float (fin s m e) (inf false) h k = inl refl
le_or_lt_float (fin s m e) (fin t n d) h k = go (le (fin s m e) (fin t n d)) refl
  where
    go : (b : Bool) → le (fin s m e) (fin t n d) ≡ b → (le (fin s m e) (fin t n d) ≡ true) ⊎ (lt (fin t n d) (fin s m e) ≡ true)
    go true q = inl q
    go false q = inr (fin_lt t n d s m e (less_not s (m * up e) (down e) t (n * up d) (down d) (λ l. true≢false (sym (fin_le s m e t n d l) ∙ q))))

-- ---- what a comparison that holds tells

pub le_number : (x y : Float) → le x y ≡ true → T (not (is_nan x)) × T (not (is_nan y))
unfolding le is_nan
le_number nan y h = absurd (false≢true h)
le_number (inf s) nan h = absurd (false≢true h)
le_number (inf s) (inf t) h = (tt, tt)
le_number (inf s) (fin t n d) h = (tt, tt)
le_number (fin s m e) nan h = absurd (false≢true h)
le_number (fin s m e) (inf t) h = (tt, tt)
le_number (fin s m e) (fin t n d) h = (tt, tt)

pub lt_not_le : (x y : Float) → lt x y ≡ true → le y x ≡ true → ⊥
unfolding le
lt_not_le nan y h k = false≢true h
lt_not_le (inf false) nan h k = false≢true h
lt_not_le (inf false) (inf t) h k = false≢true h
lt_not_le (inf false) (fin t n d) h k = false≢true h
lt_not_le (inf true) nan h k = false≢true h
lt_not_le (inf true) (inf true) h k = false≢true h
lt_not_le (inf true) (inf false) h k = false≢true k
lt_not_le (inf true) (fin t n d) h k = false≢true k
lt_not_le (fin s m e) nan h k = false≢true h
lt_not_le (fin s m e) (inf true) h k = false≢true h
lt_not_le (fin s m e) (inf false) h k = false≢true k
lt_not_le (fin s m e) (fin t n d) h k =
    let u = (lt_fin s m e t n d h).cross in
    let v = (le_fin t n d s m e k).cross in
    omega arith

pub lt_le_trans : (x y z : Float) → lt x y ≡ true → le y z ≡ true → lt x z ≡ true
lt_le_trans x y z h k =
    ⊎_elim (λ l. absurd (lt_not_le x y h (le_trans_float y z x k l))) (λ l. l)
    (le_or_lt_float z x (le_number y z k).1 (le_number x y (lt_le x y h)).0)

pub le_lt_trans : (x y z : Float) → le x y ≡ true → lt y z ≡ true → lt x z ≡ true
le_lt_trans x y z h k =
    ⊎_elim (λ l. absurd (lt_not_le y z k (le_trans_float z x y l h))) (λ l. l)
    (le_or_lt_float z x (le_number y z (lt_le y z k)).1 (le_number x y h).0)

pub neg_le : (x y : Float) → le x y ≡ true → le (neg y) (neg x) ≡ true
neg_le x y h = le_turned (neg_opp y) (neg_opp x) ∙ h

-- ---- rounding keeps the order

-- x is no not-a-number, and has the sign s
pub data Marked (s : Bool) : Float → Type 0 where
  endless : Marked s (inf s)
  ended : {m : ℕ} {e : ℤ} → Marked s (fin s m e)

marked_cond : {s : Bool} (b : Bool) {x y : Float} → Marked s x → Marked s y → Marked s (cond b x y)
marked_cond true p q = p
marked_cond false p q = q

odd_marked : (d : ℕ) (s : Bool) (q k l : ℕ) → Marked s (odd d s q k l)
unfolding odd
odd_marked d s zero k l = ended
odd_marked d s (suc q) k l = ended

units_marked : (f : Format) (s : Bool) (q k : ℕ) → Marked s (units f s q k)
unfolding units
units_marked f s q k = marked_cond (ltb (q * 2 ^ k) (2 ^ (low f + suc (emax f)))) (odd_marked (suc (prec f)) s q k (low f)) endless

pub round_marked : (f : Format) (s : Bool) (a c : ℕ) → Marked s (round f s a c)
unfolding round
round_marked f s a c = units_marked f s _ _

pub marked_number : {s : Bool} {x : Float} → Marked s x → T (not (is_nan x))
unfolding is_nan
marked_number endless = tt
marked_number ended = tt

pub marked_le : {x y : Float} → Marked true x → Marked false y → le x y ≡ true
unfolding le
marked_le endless endless = refl
marked_le endless ended = refl
marked_le ended endless = refl
marked_le (ended {m = m} {e = e}) (ended {m = n} {e = d}) = le_test true false (m * up e * down d) (n * up d * down e) (omega arith)

zeros_le : le (fin false 0 (pos 0)) (fin true 0 (pos 0)) ≡ true
unfolding le
zeros_le = refl

no_product : (a d : ℕ) → 0 < d → a * d ≡ 0 → a ≡ 0
no_product a d h e = ⊎_elim (λ z. z) (λ p. let q = mul-pos p h in absurd (omega arith)) (eq-zero-or-pos a)

pub round_le : (f : Format) (s : Bool) (a c : ℕ) (t : Bool) (b d : ℕ) → 0 < c → 0 < d → Leq s a c t b d → le (round f s a c) (round f t b d) ≡ true
round_le f false a c false b d C D h =
    is_true (le (round f false a c) (round f false b d)) (round_mono f a c b d C D (let l = h.cross in omega (arith, zero-mul c, zero-mul d)))
round_le f true a c true b d C D h =
    le_turned {b = true} (round_turned f false true a c C (turned refl)) (round_turned f false true b d D (turned refl))
    ∙ is_true (le (round f false b d) (round f false a c)) (round_mono f b d a c D C (let l = h.cross in omega (arith, zero-mul c, zero-mul d)))
round_le f true a c false b d C D h = marked_le (round_marked f true a c) (round_marked f false b d)
round_le f false a c true b d C D h =
    let l = h.cross in
    let A : a ≡ 0 = no_product a d D (omega (arith, zero-mul c, zero-mul d)) in
    let B : b ≡ 0 = no_product b c C (omega (arith, zero-mul c, zero-mul d)) in
    rw (round_zero f false a c C A, round_zero f true b d D B) zeros_le
