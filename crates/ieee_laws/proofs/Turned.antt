-- Sign symmetry of the operations of `lib.Ieee`: with operands turned, the result is turned, up to the sign of a zero. For both formats. Assumes nothing.
use Rattle.std.proofs.Common.{◌≡◌, ℕ, zero, suc, ◌+◌, ◌-◌, ◌*◌, ◌^◌, ◌<◌, Bool, true, false, cond, not, ◌&&◌, eqb, ltb, ◌⊎◌, sym, refl, ap, ◌∙◌, inl, inr, ⊎_elim, add-zero, eq-zero-or-pos, add_comm, mul-pos, mul-zero, zero-add, zero-mul, arith, ltb-false, ltb-true, le-ltb, eq-eqb, ne_eqb, eqb-true}
use mathlib.Core.Bool.{beq}
use borrow.Author.Tests.{eqb-false, not-true}
use lib.Ieee.{Float, nan, inf, fin, Format, prec, emax, low, up, down, unlike, odd, units, round, neg, sum, add, sub, mul, div}
use lib.Ieee.{below, level, lt, eq, le}
use lib.Ieee.Fits.{up_pos, down_pos}
use Rattle.lists.proofs.Bools.{and_false, not_not, or_true}
use Rattle.ieee.proofs.SignedParts.{round_zero}
use Rattle.ieee_laws.specs.Sign.{turn, Signs, turned, no_sign, Turned, of_nan, of_inf, of_fin}

-- ---- rounding

pub cond_turned : {b : Bool} (x : Bool) {y z y' z' : Float} → Turned b y y' → Turned b z z' → Turned b (cond x y z) (cond x y' z')
cond_turned true p q = p
cond_turned false p q = q

odd_turned : {b : Bool} (d : ℕ) (s t : Bool) (q k l : ℕ) → t ≡ turn b s → Turned b (odd d s q k l) (odd d t q k l)
unfolding odd
odd_turned d s t zero k l e = of_fin (no_sign refl)
odd_turned d s t (suc q) k l e = of_fin (turned e)

units_turned : {b : Bool} (f : Format) (s t : Bool) (q k : ℕ) → t ≡ turn b s → Turned b (units f s q k) (units f t q k)
unfolding units
units_turned f s t q k e =
    cond_turned (ltb (q * 2 ^ k) (2 ^ (low f + suc (emax f)))) (odd_turned (suc (prec f)) s t q k (low f) e) (of_inf e)

pub round_turned : {b : Bool} (f : Format) (s t : Bool) (n d : ℕ) → 0 < d → Signs b s t n → Turned b (round f s n d) (round f t n d)
unfolding round
round_turned f s t n d h (turned e) = units_turned f s t _ _ e
round_turned f s t n d h (no_sign e) = rw (round_zero f s n d h e, round_zero f t n d h e) (of_fin (no_sign refl))

-- ---- signs

turn_eq : (b s t : Bool) → beq (turn b s) (turn b t) ≡ beq s t
turn_eq false s t = refl
turn_eq true true true = refl
turn_eq true true false = refl
turn_eq true false true = refl
turn_eq true false false = refl

turn_not : (b s : Bool) → not (turn b s) ≡ turn b (not s)
turn_not true s = refl
turn_not false s = refl

turn_unlike : (a b s t : Bool) → unlike (turn a s) (turn b t) ≡ turn (unlike a b) (unlike s t)
turn_unlike false false s t = refl
turn_unlike false true true true = refl
turn_unlike false true true false = refl
turn_unlike false true false true = refl
turn_unlike false true false false = refl
turn_unlike true false true true = refl
turn_unlike true false true false = refl
turn_unlike true false false true = refl
turn_unlike true false false false = refl
turn_unlike true true true true = refl
turn_unlike true true true false = refl
turn_unlike true true false true = refl
turn_unlike true true false false = refl

-- signs of one magnitude are signs of another that is 0 where it is
pub signs_of : {b s t : Bool} {m n : ℕ} → (m ≡ 0 → n ≡ 0) → Signs b s t m → Signs b s t n
signs_of h (turned e) = turned e
signs_of h (no_sign e) = no_sign (h e)

-- ---- sums

and_turned : {b : Bool} (s t q : Bool) (n : ℕ) → t ≡ turn b s → (q ≡ false → n ≡ 0) → Signs b (s && q) (t && q) n
and_turned true true true n e h = turned e
and_turned true false true n e h = turned e
and_turned false true true n e h = turned e
and_turned false false true n e h = turned e
and_turned s t false n e h = no_sign (h refl)

-- two of unlike signs: p is whether the first is less, q whether the second is
mixed : {b : Bool} (f : Format) (s t s' t' p q : Bool) (x y c : ℕ) → 0 < c → s' ≡ turn b s → t' ≡ turn b t → ltb x y ≡ p → ltb y x ≡ q
    → Turned b (cond p (round f t (y - x) c) (round f (s && q) (x - y) c)) (cond p (round f t' (y - x) c) (round f (s' && q) (x - y) c))
mixed f s t s' t' true q x y c h i j u v = round_turned f t t' (y - x) c h (turned j)
mixed f s t s' t' false q x y c h i j u v =
    round_turned f (s && q) (s' && q) (x - y) c h
    (and_turned s s' q (x - y) i (λ z. let l = ltb-false x y u in let g = ltb-false y x (v ∙ z) in omega arith))

both : (b s t : Bool) (f : Format) (x y c : ℕ) → 0 < c → Turned b (sum f s x t y c) (sum f (turn b s) x (turn b t) y c)
unfolding sum
both true true true f x y c h = round_turned f true false (x + y) c h (turned refl)
both true false false f x y c h = round_turned f false true (x + y) c h (turned refl)
both false true true f x y c h = round_turned f true true (x + y) c h (turned refl)
both false false false f x y c h = round_turned f false false (x + y) c h (turned refl)
both true true false f x y c h = mixed f true false false true (ltb x y) (ltb y x) x y c h refl refl refl refl
both true false true f x y c h = mixed f false true true false (ltb x y) (ltb y x) x y c h refl refl refl refl
both false true false f x y c h = mixed f true false true false (ltb x y) (ltb y x) x y c h refl refl refl refl
both false false true f x y c h = mixed f false true false true (ltb x y) (ltb y x) x y c h refl refl refl refl

-- a sum that is one of its terms, the other being 0: `Is f z t y c` says that z is y / c rounded, with the sign t unless y is 0
pub record Is (f : Format) (z : Float) (t : Bool) (y c : ℕ) : Type 0 where
  pub sign : Bool
  pub is : z ≡ round f sign y c
  pub right : (sign ≡ t) ⊎ (y ≡ 0)

is_same : (f : Format) (t : Bool) (n y c : ℕ) → n ≡ y → Is f (round f t n c) t y c
is_same f t n y c e = record { sign = t; is = rw e; right = inl refl }

left_mixed : (f : Format) (s t p q : Bool) (x y c : ℕ) → x ≡ 0 → ltb x y ≡ p → Is f (cond p (round f t (y - x) c) (round f (s && q) (x - y) c)) t y c
left_mixed f s t true q x y c e u = is_same f t (y - x) y c (omega arith)
left_mixed f s t false q x y c e u =
    let l = ltb-false x y u in
    record { sign = s && q; is = ap (λ (n : ℕ). round f (s && q) n c) (omega arith); right = inr (omega arith) }

pub left_zero : (f : Format) (s t : Bool) (x y c : ℕ) → x ≡ 0 → Is f (sum f s x t y c) t y c
unfolding sum
left_zero f true true x y c e = is_same f true (x + y) y c (omega arith)
left_zero f false false x y c e = is_same f false (x + y) y c (omega arith)
left_zero f true false x y c e = left_mixed f true false (ltb x y) (ltb y x) x y c e refl
left_zero f false true x y c e = left_mixed f false true (ltb x y) (ltb y x) x y c e refl

right_mixed : (f : Format) (s t p q : Bool) (x y c : ℕ) → y ≡ 0 → ltb x y ≡ p → ltb y x ≡ q → Is f (cond p (round f t (y - x) c) (round f (s && q) (x - y) c)) s x c
right_mixed f s t true q x y c e u v = let l = ltb-true x y u in absurd (omega arith)
right_mixed f s t false true x y c e u v = record { sign = s && true; is = ap (λ (n : ℕ). round f (s && true) n c) (omega arith); right = inl (and_true s) }
  where
    and_true : (s : Bool) → (s && true) ≡ s
    and_true true = refl
    and_true false = refl
right_mixed f s t false false x y c e u v =
    let l = ltb-false y x v in
    record { sign = s && false; is = ap (λ (n : ℕ). round f (s && false) n c) (omega arith); right = inr (omega arith) }

pub right_zero : (f : Format) (s t : Bool) (x y c : ℕ) → y ≡ 0 → Is f (sum f s x t y c) s x c
unfolding sum
right_zero f true true x y c e = is_same f true (x + y) x c (omega arith)
right_zero f false false x y c e = is_same f false (x + y) x c (omega arith)
right_zero f true false x y c e = right_mixed f true false (ltb x y) (ltb y x) x y c e refl refl
right_zero f false true x y c e = right_mixed f false true (ltb x y) (ltb y x) x y c e refl refl

is_turned : {b : Bool} (f : Format) (z z' : Float) (t t' : Bool) (y c : ℕ) → 0 < c → Is f z t y c → Is f z' t' y c → Signs b t t' y → Turned b z z'
is_turned {b} f z z' t t' y c h i j g =
    rw (i.is, j.is) (round_turned f i.sign j.sign y c h (join i.right j.right g))
  where
    join : {s s' : Bool} → (s ≡ t) ⊎ (y ≡ 0) → (s' ≡ t') ⊎ (y ≡ 0) → Signs b t t' y → Signs b s s' y
    join (inl p) (inl q) (turned r) = turned (q ∙ r ∙ ap (turn b) (sym p))
    join (inl p) (inl q) (no_sign r) = no_sign r
    join (inl p) (inr q) r = no_sign q
    join (inr p) q r = no_sign p

pub sum_turned : {b : Bool} (f : Format) (s t s' t' : Bool) (x y c : ℕ) → 0 < c → Signs b s s' x → Signs b t t' y → Turned b (sum f s x t y c) (sum f s' x t' y c)
sum_turned {b} f s t s' t' x y c h (turned p) (turned q) = rw (p, q) (both b s t f x y c h)
sum_turned f s t s' t' x y c h (no_sign p) g = is_turned f _ _ t t' y c h (left_zero f s t x y c p) (left_zero f s' t' x y c p) g
sum_turned f s t s' t' x y c h (turned p) (no_sign q) = is_turned f _ _ s s' x c h (right_zero f s t x y c q) (right_zero f s' t' x y c q) (turned p)

-- ---- the operations

pub neg_turned : {b : Bool} {x y : Float} → Turned b x y → Turned b (neg x) (neg y)
unfolding neg
neg_turned of_nan = of_nan
neg_turned {b} (of_inf {s = s} e) = of_inf (ap not e ∙ turn_not b s)
neg_turned {b} (of_fin {s = s} (turned e)) = of_fin (turned (ap not e ∙ turn_not b s))
neg_turned (of_fin (no_sign e)) = of_fin (no_sign e)

pub neg_opp : (x : Float) → Turned true x (neg x)
unfolding neg
neg_opp nan = of_nan
neg_opp (inf s) = of_inf refl
neg_opp (fin s m e) = of_fin (turned refl)

pub zero_of : (m u d : ℕ) → m ≡ 0 → m * u * d ≡ 0
zero_of m u d e = rw (e, zero-mul, zero-mul)

pub add_turned : {b : Bool} (f : Format) {x y x' y' : Float} → Turned b x x' → Turned b y y' → Turned b (add f x y) (add f x' y')
unfolding add
add_turned f of_nan q = of_nan
add_turned f (of_inf e) of_nan = of_nan
add_turned {b} f (of_inf {s = s} {t = s'} e) (of_inf {s = t} {t = t'} g) =
    let z : beq s' t' ≡ beq s t = rw (e, g) (turn_eq b s t) in
    rw z (cond_turned (beq s t) (of_inf e) of_nan)
add_turned f (of_inf e) (of_fin g) = of_inf e
add_turned f (of_fin e) of_nan = of_nan
add_turned f (of_fin e) (of_inf g) = of_inf g
add_turned f (of_fin {s = s} {t = s'} {m = m} {e = e} p) (of_fin {s = t} {t = t'} {m = n} {e = d} q) =
    sum_turned f s t s' t' (m * up e * down d) (n * up d * down e) (down e * down d)
    (mul-pos (down_pos e) (down_pos d)) (signs_of (zero_of m (up e) (down d)) p) (signs_of (zero_of n (up d) (down e)) q)

pub sub_turned : {b : Bool} (f : Format) {x y x' y' : Float} → Turned b x x' → Turned b y y' → Turned b (sub f x y) (sub f x' y')
unfolding sub
sub_turned f p q = add_turned f p (neg_turned q)

pub like : (a b s t s' t' : Bool) → s' ≡ turn a s → t' ≡ turn b t → unlike s' t' ≡ turn (unlike a b) (unlike s t)
like a b s t s' t' e g = rw (e, g) (turn_unlike a b s t)

pub product : {a b s t s' t' : Bool} {m n : ℕ} (k : ℕ) → (m ≡ 0 → k ≡ 0) → (n ≡ 0 → k ≡ 0) → Signs a s s' m → Signs b t t' n → Signs (unlike a b) (unlike s t) (unlike s' t') k
product {a} {b} {s} {t} {s'} {t'} k h i (turned e) (turned g) = turned (like a b s t s' t' e g)
product k h i (turned e) (no_sign g) = no_sign (i g)
product k h i (no_sign e) g = no_sign (h e)

pub mul_turned : {a b : Bool} (f : Format) {x y x' y' : Float} → Turned a x x' → Turned b y y' → Turned (unlike a b) (mul f x y) (mul f x' y')
unfolding mul
mul_turned f of_nan q = of_nan
mul_turned f (of_inf e) of_nan = of_nan
mul_turned {a} {b} f (of_inf {s = s} {t = s'} e) (of_inf {s = t} {t = t'} g) = of_inf (like a b s t s' t' e g)
mul_turned {a} {b} f (of_inf {s = s} {t = s'} e) (of_fin {s = t} {t = t'} {m = n} (turned g)) =
    cond_turned (eqb n 0) of_nan (of_inf (like a b s t s' t' e g))
mul_turned f (of_inf e) (of_fin {m = n} (no_sign g)) = rw (eq-eqb n 0 g) of_nan
mul_turned f (of_fin e) of_nan = of_nan
mul_turned {a} {b} f (of_fin {s = s} {t = s'} {m = m} (turned e)) (of_inf {s = t} {t = t'} g) =
    cond_turned (eqb m 0) of_nan (of_inf (like a b s t s' t' e g))
mul_turned f (of_fin {m = m} (no_sign e)) (of_inf g) = rw (eq-eqb m 0 e) of_nan
mul_turned f (of_fin {s = s} {t = s'} {m = m} {e = e} p) (of_fin {s = t} {t = t'} {m = n} {e = d} q) =
    let k = m * up e * (n * up d) in
    round_turned f (unlike s t) (unlike s' t') k (down e * down d) (mul-pos (down_pos e) (down_pos d))
    (product k (λ z. rw (z, zero-mul, zero-mul)) (λ z. rw (z, zero-mul, mul-zero)) p q)

-- the divisor is no zero: the sign of a zero would show in the quotient
unfoldable pub nonzero : Float → Bool
nonzero nan = true
nonzero (inf s) = true
nonzero (fin s m e) = not (eqb m 0)

no_zero : (n : ℕ) → n ≡ 0 → not (eqb n 0) ≡ true → ⊥
no_zero n e h = eqb-false n 0 (not-true (eqb n 0) h) e

some_of : (n : ℕ) → eqb n 0 ≡ false → 0 < n
some_of n z = ⊎_elim (λ e. absurd (eqb-false n 0 z e)) (λ p. p) (eq-zero-or-pos n)

pub div_turned : {a b : Bool} (f : Format) {x y x' y' : Float} → Turned a x x' → Turned b y y' → nonzero y ≡ true → Turned (unlike a b) (div f x y) (div f x' y')
unfolding div nonzero
div_turned f of_nan q h = of_nan
div_turned f (of_inf e) of_nan h = of_nan
div_turned f (of_inf e) (of_inf g) h = of_nan
div_turned {a} {b} f (of_inf {s = s} {t = s'} e) (of_fin {s = t} {t = t'} (turned g)) h = of_inf (like a b s t s' t' e g)
div_turned f (of_inf e) (of_fin {m = n} (no_sign g)) h = absurd (no_zero n g h)
div_turned f (of_fin e) of_nan h = of_nan
div_turned {a} {b} f (of_fin {s = s} {t = s'} p) (of_inf {s = t} {t = t'} g) h =
    of_fin (no_sign refl)
div_turned f (of_fin {s = s} {t = s'} {m = m} {e = e} p) (of_fin {s = t} {t = t'} {m = n} {e = d} q) h =
    let z = not-true (eqb n 0) h in
    let k = m * up e * down d in
    rw z
    (round_turned f (unlike s t) (unlike s' t') k (n * up d * down e) (mul-pos (mul-pos (some_of n z) (up_pos d)) (down_pos e))
    (product k (zero_of m (up e) (down d)) (λ y. absurd (no_zero n y h)) p q))

-- ---- comparisons

-- x < y, or with both turned y < x
abbrev pub lt_by : Bool → Float → Float → Bool
lt_by true x y = lt y x
lt_by false x y = lt x y

abbrev pub le_by : Bool → Float → Float → Bool
le_by true x y = le y x
le_by false x y = le x y

abbrev below_by : Bool → Bool → ℕ → Bool → ℕ → Bool
below_by true s x t y = below t y s x
below_by false s x t y = below s x t y

below_both : (b s t : Bool) (x y : ℕ) → below (turn b s) x (turn b t) y ≡ below_by b s x t y
below_both false s t x y = refl
below_both true true true x y = refl
below_both true true false x y = refl
below_both true false true x y = rw (add_comm x y)
below_both true false false x y = refl

-- with a zero, whose sign does not matter
pub zero_left : (s t : Bool) (x y : ℕ) → x ≡ 0 → below s x t y ≡ (not t && ltb 0 y)
zero_left false false x y e = rw e
zero_left false true x y e = refl
zero_left true false x y e = rw (e, zero-add)
zero_left true true x y e = le-ltb y x (omega arith)

pub zero_right : (s t : Bool) (x y : ℕ) → y ≡ 0 → below s x t y ≡ (s && ltb 0 x)
zero_right false false x y e = le-ltb x y (omega arith)
zero_right false true x y e = refl
zero_right true false x y e = rw (e, add-zero)
zero_right true true x y e = rw e

by_left : (b s t : Bool) (x y : ℕ) → x ≡ 0 → below_by b s x t y ≡ (not (turn b t) && ltb 0 y)
by_left false s t x y e = zero_left s t x y e
by_left true s true x y e = zero_right true s y x e
by_left true s false x y e = zero_right false s y x e

by_right : (b s t : Bool) (x y : ℕ) → y ≡ 0 → below_by b s x t y ≡ (turn b s && ltb 0 x)
by_right false s t x y e = zero_right s t x y e
by_right true s t x y e = zero_left t s y x e

none_below : (a : Bool) (y : ℕ) → y ≡ 0 → (a && ltb 0 y) ≡ false
none_below a y e = rw (le-ltb 0 y (omega arith)) (and_false a)

below_turned : {b s t s' t' : Bool} (x y : ℕ) → Signs b s s' x → Signs b t t' y → below s' x t' y ≡ below_by b s x t y
below_turned {b} {s} {t} {s'} {t'} x y (turned p) (turned q) = rw (p, q) (below_both b s t x y)
below_turned {b} {s} {t} {s'} {t'} x y (no_sign p) (turned q) = zero_left s' t' x y p ∙ (rw q) ∙ sym (by_left b s t x y p)
below_turned {b} {s} {t} {s'} {t'} x y (turned p) (no_sign q) = zero_right s' t' x y q ∙ (rw p) ∙ sym (by_right b s t x y q)
below_turned {b} {s} {t} {s'} {t'} x y (no_sign p) (no_sign q) =
    zero_left s' t' x y p ∙ none_below (not t') y q ∙ sym (by_left b s t x y p ∙ none_below (not (turn b t)) y q)

inf_below : (b s t s' t' : Bool) → s' ≡ turn b s → t' ≡ turn b t → (s' && not t') ≡ cond b (t && not s) (s && not t)
inf_below false s t s' t' e g = rw (e, g)
inf_below true true true s' t' e g = rw e
inf_below true true false s' t' e g = rw e
inf_below true false true s' t' e g = rw (e, g)
inf_below true false false s' t' e g = rw (e, g)

pub lt_turned : {b : Bool} {x y x' y' : Float} → Turned b x x' → Turned b y y' → lt x' y' ≡ lt_by b x y
unfolding lt
lt_turned {b = true} of_nan of_nan = refl
lt_turned {b = false} of_nan of_nan = refl
lt_turned {b = true} of_nan (of_inf g) = refl
lt_turned {b = false} of_nan (of_inf g) = refl
lt_turned {b = true} of_nan (of_fin g) = refl
lt_turned {b = false} of_nan (of_fin g) = refl
lt_turned {b = true} (of_inf e) of_nan = refl
lt_turned {b = false} (of_inf e) of_nan = refl
lt_turned {b = true} (of_inf {s = s} {t = s'} e) (of_inf {s = t} {t = t'} g) = inf_below true s t s' t' e g
lt_turned {b = false} (of_inf {s = s} {t = s'} e) (of_inf {s = t} {t = t'} g) = inf_below false s t s' t' e g
lt_turned {b = true} (of_inf e) (of_fin g) = e
lt_turned {b = false} (of_inf e) (of_fin g) = e
lt_turned {b = true} (of_fin e) of_nan = refl
lt_turned {b = false} (of_fin e) of_nan = refl
lt_turned {b = true} (of_fin e) (of_inf {s = t} g) = ap not g ∙ not_not t
lt_turned {b = false} (of_fin e) (of_inf g) = ap not g
lt_turned {b = true} (of_fin {m = m} {e = e} p) (of_fin {m = n} {e = d} q) =
    below_turned (m * up e * down d) (n * up d * down e) (signs_of (zero_of m (up e) (down d)) p) (signs_of (zero_of n (up d) (down e)) q)
lt_turned {b = false} (of_fin {m = m} {e = e} p) (of_fin {m = n} {e = d} q) =
    below_turned (m * up e * down d) (n * up d * down e) (signs_of (zero_of m (up e) (down d)) p) (signs_of (zero_of n (up d) (down e)) q)

-- equal magnitudes that are 0 are level whatever the signs
pub level_zero : (s t z : Bool) (x y : ℕ) → eqb x y ≡ z → (x ≡ y → x ≡ 0) → level s x t y ≡ eqb x y
level_zero s t true x y u h = rw (eq-eqb x 0 (h (eqb-true x y u)), or_true, u)
level_zero s t false x y u h = rw u

level_turned : {b s t s' t' : Bool} (x y : ℕ) → Signs b s s' x → Signs b t t' y → level s' x t' y ≡ level s x t y
level_turned {b} {s} {t} x y (turned p) (turned q) = rw (p, q, turn_eq b s t)
level_turned {b} {s} {t} {s'} {t'} x y (no_sign p) q = level_zero s' t' (eqb x y) x y refl (λ z. p) ∙ sym (level_zero s t (eqb x y) x y refl (λ z. p))
level_turned {b} {s} {t} {s'} {t'} x y (turned p) (no_sign q) =
    level_zero s' t' (eqb x y) x y refl (λ z. z ∙ q) ∙ sym (level_zero s t (eqb x y) x y refl (λ z. z ∙ q))

pub eq_turned : {b : Bool} {x y x' y' : Float} → Turned b x x' → Turned b y y' → eq x' y' ≡ eq x y
unfolding eq
eq_turned of_nan q = refl
eq_turned (of_inf e) of_nan = refl
eq_turned {b} (of_inf {s = s} e) (of_inf {s = t} g) = rw (e, g) (turn_eq b s t)
eq_turned (of_inf e) (of_fin g) = refl
eq_turned (of_fin e) of_nan = refl
eq_turned (of_fin e) (of_inf g) = refl
eq_turned (of_fin {m = m} {e = e} p) (of_fin {m = n} {e = d} q) =
    level_turned (m * up e * down d) (n * up d * down e) (signs_of (zero_of m (up e) (down d)) p) (signs_of (zero_of n (up d) (down e)) q)

beq_comm : (s t : Bool) → beq s t ≡ beq t s
beq_comm true true = refl
beq_comm true false = refl
beq_comm false true = refl
beq_comm false false = refl

level_comm : (s t z : Bool) (x y : ℕ) → eqb x y ≡ z → level s x t y ≡ level t y s x
level_comm s t true x y u = rw (eqb-true x y u, beq_comm s t)
level_comm s t false x y u = let v = ne_eqb y x (λ e. eqb-false x y u (sym e)) in rw (u, v)

eq_comm : (x y : Float) → eq x y ≡ eq y x
unfolding eq
eq_comm nan nan = refl
eq_comm nan (inf t) = refl
eq_comm nan (fin t n d) = refl
eq_comm (inf s) nan = refl
eq_comm (inf s) (inf t) = beq_comm s t
eq_comm (inf s) (fin t n d) = refl
eq_comm (fin s m e) nan = refl
eq_comm (fin s m e) (inf t) = refl
eq_comm (fin s m e) (fin t n d) = level_comm s t (eqb (m * up e * down d) (n * up d * down e)) (m * up e * down d) (n * up d * down e) refl

pub le_turned : {b : Bool} {x y x' y' : Float} → Turned b x x' → Turned b y y' → le x' y' ≡ le_by b x y
unfolding le
le_turned {b = true} {x = x} {y = y} p q = rw (lt_turned p q, eq_turned p q, eq_comm x y)
le_turned {b = false} p q = rw (lt_turned p q, eq_turned p q)
