-- What stands in the table of the angle for each quarter, and that no step on the way to the line is a not-a-number. Assumes nothing.
use mathlib.Core.Path.{◌≡◌, refl, sym, ap, ◌∙◌, subst}
use mathlib.Core.Bool.{Bool, true, false, not, cond, beq, ◌&&◌}
use Prim.Native.Nat.{ℕ, ◌+◌, ◌-◌, ◌*◌, ◌^◌, ◌<◌}
use native.Mathlib.Omega.{arith}
use lib.Dec.{T, ltb, eqb}
use borrow.Author.Tests.{ltb-true}
use lib.IntN.{ℤ}
use lib.ListN.{length, get_or, take}
use Rattle.std.specs.Int.{from_bool}
use Rattle.std.proofs.lemmas.List.{get_or-take}
use lib.Ieee.{Float, nan, inf, fin, binary32, unlike, up, down, lt, add, sub, mul, div, sum, round, is_nan, of_bits, fits}
use Rattle.ieee.specs.Numbers.{nought}
use Rattle.ieee.specs.F32.{◌⊕◌, ◌⊗◌, abs_of}
use Rattle.ieee.proofs.Doubled.{round_no_nan}
use Rattle.hal_angle.specs.Numbers.{shift}
use Rattle.hal_angle.specs.Turns.{turns, place_of}
use Rattle.hal_reach.specs.Reach.{in_angle}
use Rattle.bounds.specs.Bounds.{lesser_of, greater_of}
use Rattle.hal_angle.specs.declared.turns.Quarter.{Quarter}
use Rattle.hal_angle.specs.declared.turns.TheConstants.{LINES, QUARTERS}
use Rattle.hal_angle.specs.Angle.{sum_of, ahead_of, quarter_of, turn_at, line_of, along_of, direction_of, angle_of}
use Rattle.hal_angle.proofs.AngleLaws.{angle_level, angle_direction}
use Rattle.hal.proofs.TwoByTwo.{pairs_of, pair_at}
use Rattle.hal_reach.proofs.Reach.{reach_dx, reach_dy}
use Rattle.hal_angle.proofs.AngleUnits.{near, apart, whole_of, both_most, sum_test, ahead_units}

-- ---- the lines, two numbers of the table each
lines_are : LINES ≡ pairs_of (take 256 turns)
unfolding turns pairs_of of_bits
lines_are = refl

half_length : length (take 256 turns) ≡ 256
unfolding turns
half_length = refl

line_at : (k : ℕ) → k < 128 → get_or LINES k (nan, nan) ≡ (turn_at (2 * k), turn_at (2 * k + 1))
line_at k h =
    let e : get_or (take 256 turns) (2 * k) nan ≡ turn_at (2 * k) = get_or-take 256 turns (2 * k) nan (omega arith) in
    let f : get_or (take 256 turns) (2 * k + 1) nan ≡ turn_at (2 * k + 1) = get_or-take 256 turns (2 * k + 1) nan (omega arith) in
    ap (λ l. get_or l k (nan, nan)) lines_are ∙ pair_at nan (take 256 turns) k (omega (arith, half_length)) ∙ rw (e, f) refl

pub line_is : (middle d : Float) (k : ℕ) → k < 128 → middle ⊕ (get_or LINES k (nan, nan)).0 ⊕ d ⊗ (get_or LINES k (nan, nan)).1 ≡ line_of middle k d
unfolding line_of
line_is middle d k h = rw (line_at k h) refl

-- ---- the quarters, four numbers each
abbrev from_place : Quarter → Bool → Bool → Type 0
from_place q left down =
    (q.middle ≡ turn_at (place_of left down)) × (q.steps ≡ turn_at (place_of left down + 1)) × (q.least ≡ turn_at (place_of left down + 2)) × (q.largest ≡ turn_at (place_of left down + 3))

pub quarter_at : (left down : Bool) (d : Quarter) → from_place (get_or QUARTERS (from_bool left + 2 * from_bool down) d) left down
unfolding turns of_bits
quarter_at false false d = (refl, refl, refl, refl)
quarter_at true false d = (refl, refl, refl, refl)
quarter_at true true d = (refl, refl, refl, refl)
quarter_at false true d = (refl, refl, refl, refl)

pub record Row (left down : Bool) : Type 0 where
  pub middle : turn_at (place_of left down) ≡ (quarter_of left down).middle
  pub steps : turn_at (place_of left down + 1) ≡ (quarter_of left down).steps
  pub least : turn_at (place_of left down + 2) ≡ (quarter_of left down).least
  pub largest : turn_at (place_of left down + 3) ≡ (quarter_of left down).largest

pub row : (left down : Bool) → Row left down
unfolding turns of_bits
row false false = record { middle = refl; steps = refl; least = refl; largest = refl }
row true false = record { middle = refl; steps = refl; least = refl; largest = refl }
row true true = record { middle = refl; steps = refl; least = refl; largest = refl }
row false true = record { middle = refl; steps = refl; least = refl; largest = refl }

-- what the code has by then: q by the line, g and r held
pub direction_at : (left down : Bool) (ahead : Float) {m s l t q g r : Float} → m ≡ turn_at (place_of left down) → s ≡ turn_at (place_of left down + 1) → l ≡ turn_at (place_of left down + 2) → t ≡ turn_at (place_of left down + 3)
    → q ≡ along_of m (ahead ⊗ s) → g ≡ greater_of l q → r ≡ lesser_of g t → r ≡ direction_of (quarter_of left down) ahead
unfolding direction_of
direction_at left down ahead m s l t q g r =
    let x : Row left down = row left down in
    rw (r, g, q, m ∙ x.middle, s ∙ x.steps, l ∙ x.least, t ∙ x.largest) refl

-- ---- numbers
times_number : (x : Float) (t : Bool) (n : ℕ) (d : ℤ) → eqb n 0 ≡ false → T (not (is_nan x)) → T (not (is_nan (mul binary32 x (fin t n d))))
unfolding mul
times_number nan t n d z h = absurd (unfold is_nan in h)
times_number (inf s) t n d z h = rw z (unfold is_nan in tt)
times_number (fin s m e) t n d z h = round_no_nan binary32 (unlike s t) (m * up e * (n * up d)) (down e * down d)

sum_number : (s t : Bool) (a b c : ℕ) → T (not (is_nan (sum binary32 s a t b c)))
unfolding sum
sum_number s t a b c = go (beq s t) (ltb a b)
  where
    go : (x y : Bool) → T (not (is_nan (cond x (round binary32 s (a + b) c) (cond y (round binary32 t (b - a) c) (round binary32 (s && ltb b a) (a - b) c)))))
    go true y = round_no_nan binary32 s (a + b) c
    go false true = round_no_nan binary32 t (b - a) c
    go false false = round_no_nan binary32 (s && ltb b a) (a - b) c

plus_number : (x : Float) (t : Bool) (n : ℕ) (d : ℤ) → T (not (is_nan x)) → T (not (is_nan (add binary32 x (fin t n d))))
unfolding add
plus_number nan t n d h = absurd (unfold is_nan in h)
plus_number (inf s) t n d h = unfold is_nan in tt
plus_number (fin s m e) t n d h = sum_number s t (m * up e * down d) (n * up d * down e) (down e * down d)

pub step_number : (left down : Bool) (ahead : Float) → T (not (is_nan ahead)) → T (not (is_nan (add binary32 (mul binary32 ahead (quarter_of left down).steps) shift)))
unfolding of_bits
step_number false false ahead h = plus_number _ _ _ _ (times_number ahead _ _ _ refl h)
step_number true false ahead h = plus_number _ _ _ _ (times_number ahead _ _ _ refl h)
step_number true true ahead h = plus_number _ _ _ _ (times_number ahead _ _ _ refl h)
step_number false true ahead h = plus_number _ _ _ _ (times_number ahead _ _ _ refl h)

-- the quotient, where the sum is above 0
ahead_number : (dx dy : Float) → T (fits binary32 dx) → T (fits binary32 dy) → T (in_angle dx dy) → lt nought (sum_of dx dy) ≡ true → T (not (is_nan (ahead_of dx dy)))
unfolding ahead_of
ahead_number dx dy fx fy h e =
    let x = whole_of dx fx (reach_dx dx dy h) in
    let y = whole_of dy fy (reach_dy dx dy h) in
    let m = both_most x.units y.units (2 ^ 149) x.most y.most in
    let p = ltb-true 0 (near (y.units + x.units)) (sym (sum_test (abs_of dy) (abs_of dx) y.units x.units m y.value x.value) ∙ e) in
    subst (λ (z : Float). T (not (is_nan z))) (sym (ahead_units (abs_of dy) (abs_of dx) y.units x.units m y.value x.value p)) (round_no_nan binary32 (ltb y.units x.units) (near (apart y.units x.units)) (near (y.units + x.units)))

-- ---- with the sizes a and b
module _ (dx dy a b : Float) (p : a ≡ abs_of dx) (q : b ≡ abs_of dy) where
  sum_is : lt nought (add binary32 b a) ≡ lt nought (sum_of dx dy)
  sum_is = ap (λ (z : Float). lt nought (add binary32 z a)) q ∙ ap (λ (z : Float). lt nought (add binary32 (abs_of dy) z)) p

  ahead_is : div binary32 (sub binary32 b a) (add binary32 b a) ≡ ahead_of dx dy
  unfolding ahead_of
  ahead_is = ap (λ (z : Float). div binary32 (sub binary32 z a) (add binary32 z a)) q ∙ ap (λ (z : Float). div binary32 (sub binary32 (abs_of dy) z) (add binary32 (abs_of dy) z)) p

  pub number_at : T (fits binary32 dx) → T (fits binary32 dy) → in_angle dx dy ≡ true → lt nought (add binary32 b a) ≡ true → T (not (is_nan (div binary32 (sub binary32 b a) (add binary32 b a))))
  number_at fx fy h e = subst (λ (z : Float). T (not (is_nan z))) (sym ahead_is) (ahead_number dx dy fx fy (subst T (sym h) tt) (sym sum_is ∙ e))

  pub angle_at : (r : Float) → in_angle dx dy ≡ true → lt nought (add binary32 b a) ≡ true → r ≡ direction_of (quarter_of (lt dx nought) (lt dy nought)) (div binary32 (sub binary32 b a) (add binary32 b a)) → r ≡ angle_of dx dy
  angle_at r h e f = f ∙ ap (direction_of (quarter_of (lt dx nought) (lt dy nought))) ahead_is ∙ sym (angle_direction dx dy (subst T (sym h) tt) (sym sum_is ∙ e))

  pub level_at : in_angle dx dy ≡ true → lt nought (add binary32 b a) ≡ false → nought ≡ angle_of dx dy
  level_at h e = sym (angle_level dx dy (subst T (sym h) tt) (sym sum_is ∙ e))
