-- Floats that are equal as numbers, zeros of both signs too: none of the two is above the other, and their difference is a zero. For both formats. Assumes nothing.
use Rattle.std.proofs.Common.{◌≡◌, ℕ, ◌-◌, ◌*◌, Bool, true, false, eqb, ltb, sym, refl, subst, ⊎_elim, mul-pos, arith, le-ltb, eq-eqb, eqb-true}
use mathlib.Core.Bool.{false≢true}
use lib.Ieee.{Float, nan, inf, fin, Format, up, down, sum, level, neg, add, sub, lt, eq, le}
use lib.Ieee.Fits.{down_pos}
use lib.Ieee.Scale.{finite}
use Rattle.lists.proofs.Bools.{and_left, and_right, both_and, or_right, or_cases}
use Rattle.ieee.proofs.SignedParts.{round_zero}
use Rattle.ieee_laws.proofs.Order.{le_trans_float, lt_not_le}
use Rattle.ieee_laws.proofs.Monotone.{nil, sub_le}
use Rattle.ieee_laws.proofs.Bounds.{bounds_finite, bounds_point}

-- ---- equal is not above either way

level_turn : (s t : Bool) (a b : ℕ) → level s a t b ≡ true → level t b s a ≡ true
level_turn true true a b h = both_and (eqb b a) true (eq-eqb b a (sym (eqb-true a b (and_left (eqb a b) true h)))) refl
level_turn false false a b h = both_and (eqb b a) true (eq-eqb b a (sym (eqb-true a b (and_left (eqb a b) true h)))) refl
level_turn true false a b h =
    let e = eqb-true a b (and_left (eqb a b) (eqb a 0) h) in
    let z = eqb-true a 0 (and_right (eqb a b) (eqb a 0) h) in
    both_and (eqb b a) (eqb b 0) (eq-eqb b a (sym e)) (eq-eqb b 0 (omega arith))
level_turn false true a b h =
    let e = eqb-true a b (and_left (eqb a b) (eqb a 0) h) in
    let z = eqb-true a 0 (and_right (eqb a b) (eqb a 0) h) in
    both_and (eqb b a) (eqb b 0) (eq-eqb b a (sym e)) (eq-eqb b 0 (omega arith))

pub eq_turn : (x y : Float) → eq x y ≡ true → eq y x ≡ true
unfolding eq
eq_turn nan y h = absurd (false≢true h)
eq_turn (inf s) nan h = absurd (false≢true h)
eq_turn (inf true) (inf true) h = refl
eq_turn (inf true) (inf false) h = absurd (false≢true h)
eq_turn (inf false) (inf true) h = absurd (false≢true h)
eq_turn (inf false) (inf false) h = refl
eq_turn (inf s) (fin t n d) h = absurd (false≢true h)
eq_turn (fin s m e) nan h = absurd (false≢true h)
eq_turn (fin s m e) (inf t) h = absurd (false≢true h)
eq_turn (fin s m e) (fin t n d) h = level_turn s t (m * up e * down d) (n * up d * down e) h

pub eq_le : (x y : Float) → eq x y ≡ true → le x y ≡ true
unfolding le
eq_le x y h = or_right (lt x y) (eq x y) h

pub le_eq : (x y : Float) → le x y ≡ true → le y x ≡ true → eq x y ≡ true
unfolding le
le_eq x y h k = ⊎_elim (λ l. absurd (lt_not_le x y l k)) (λ e. e) (or_cases (lt x y) (eq x y) h)

-- both equal to a third
pub eq_both : (x y z : Float) → eq x z ≡ true → eq y z ≡ true → eq x y ≡ true
eq_both x y z h k =
    le_eq x y (le_trans_float x z y (eq_le x z h) (eq_le z y (eq_turn y z k))) (le_trans_float y z x (eq_le y z k) (eq_le z x (eq_turn x z h)))

-- ---- the difference

-- of a number and itself: +0
pub sub_same : (f : Format) (x : Float) → finite x ≡ true → sub f x x ≡ nil
unfolding sub add neg sum
sub_same f nan h = absurd (false≢true h)
sub_same f (inf s) h = absurd (false≢true h)
sub_same f (fin true m e) h =
    let a = m * up e * down e in
    let z : ltb (m * up e * down e) (m * up e * down e) ≡ false = le-ltb a a (omega arith) in
    rw z (round_zero f false (a - a) (down e * down e) (mul-pos (down_pos e) (down_pos e)) (omega arith))
sub_same f (fin false m e) h =
    let a = m * up e * down e in
    let z : ltb (m * up e * down e) (m * up e * down e) ≡ false = le-ltb a a (omega arith) in
    rw z (round_zero f false (a - a) (down e * down e) (mul-pos (down_pos e) (down_pos e)) (omega arith))

-- where the difference is finite the first is
pub sub_finite : (f : Format) (x y : Float) → finite (sub f x y) ≡ true → finite x ≡ true
unfolding sub add neg
sub_finite f nan y h = h
sub_finite f (inf s) nan h = h
sub_finite f (inf true) (inf true) h = h
sub_finite f (inf true) (inf false) h = h
sub_finite f (inf false) (inf true) h = h
sub_finite f (inf false) (inf false) h = h
sub_finite f (inf s) (fin t n d) h = h
sub_finite f (fin s m e) y h = refl

-- of two that are equal: a zero, between those of each and itself
pub sub_level : (f : Format) (x y : Float) → finite x ≡ true → eq x y ≡ true → eq (sub f x y) nil ≡ true
sub_level f x y p e =
    let h = eq_le x y e in
    let k = eq_le y x (eq_turn x y e) in
    let q : finite y ≡ true = bounds_finite (record { from = p; to = p; low = h; high = k }) in
    le_eq (sub f x y) nil
    (subst (λ (z : Float). le (sub f x y) z ≡ true) (sub_same f y q) (sub_le f x y y y p q q q h (bounds_point y q).low))
    (subst (λ (z : Float). le z (sub f x y) ≡ true) (sub_same f x p) (sub_le f x x x y p p p q (bounds_point x p).low k))
