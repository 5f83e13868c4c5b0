-- The angle's range: whatever the line is, it is held in the quarter that the signs name, and below 360. Assumes nothing.
use mathlib.Core.Path.{◌≡◌, refl, sym, subst}
use mathlib.Core.Bool.{Bool, true, false, cond}
use lib.Dec.{T}
use lib.Ieee.{Float, lt, le, eq, of_bits}
use lib.Ieee.Bits.{is_true}
use Rattle.ieee_laws.proofs.Order.{lt_le, le_refl_float, le_number, le_trans_float, le_lt_trans}
use Rattle.ieee.specs.Numbers.{nought, whole_turn}
use Rattle.hal.specs.Rules.{In}
use Rattle.hal_reach.specs.Reach.{in_angle}
use Rattle.bounds.specs.Bounds.{lesser_of, greater_of}
use Rattle.hal_angle.specs.Angle.{quarter_of, direction_of, sum_of, ahead_of, angle_of}
use Rattle.hal_angle.specs.Rules.{start_of, end_of}

-- ---- what is held in lo to hi
record Held (lo hi r : Float) : Type 0 where
  pub low : le lo r ≡ true
  pub high : le r hi ≡ true

held_in : (lo hi q : Float) → lt lo hi ≡ true → Held lo hi (lesser_of (greater_of lo q) hi)
held_in lo hi q o = go (lt lo q) refl (lt q hi) refl
  where
    below : le lo hi ≡ true
    below = lt_le lo hi o

    go : (x : Bool) → lt lo q ≡ x → (y : Bool) → lt q hi ≡ y → Held lo hi (cond (lt (cond x q lo) hi) (cond x q lo) hi)
    go true e true f = subst (λ (b : Bool). Held lo hi (cond b q hi)) (sym f) (record { low = lt_le lo q e; high = lt_le q hi f })
    go true e false f = subst (λ (b : Bool). Held lo hi (cond b q hi)) (sym f) (record { low = below; high = le_refl_float hi (le_number lo hi below).1 })
    go false e y f = subst (λ (b : Bool). Held lo hi (cond b lo hi)) (sym o) (record { low = le_refl_float lo (le_number lo hi below).0; high = below })

-- ---- each quarter: from its start to its end, and below 360
record Ends (left down : Bool) : Type 0 where
  pub order : lt (quarter_of left down).least (quarter_of left down).largest ≡ true
  pub zero : le nought (quarter_of left down).least ≡ true
  pub start : start_of left down ≡ (quarter_of left down).least
  pub end : le (quarter_of left down).largest (end_of left down) ≡ true
  pub under : lt (quarter_of left down).largest whole_turn ≡ true

ends : (left down : Bool) → Ends left down
unfolding lt le eq of_bits
ends false false = record { order = refl; zero = refl; start = refl; end = refl; under = refl }
ends true false = record { order = refl; zero = refl; start = refl; end = refl; under = refl }
ends true true = record { order = refl; zero = refl; start = refl; end = refl; under = refl }
ends false true = record { order = refl; zero = refl; start = refl; end = refl; under = refl }

direction_held : (left down : Bool) (ahead : Float) → Held (quarter_of left down).least (quarter_of left down).largest (direction_of (quarter_of left down) ahead)
unfolding direction_of
direction_held left down ahead = held_in (quarter_of left down).least (quarter_of left down).largest _ (ends left down).order

so : {b : Bool} → b ≡ true → T b
so e = subst T (sym e) tt

pub direction_in : (left down : Bool) (ahead : Float) → In (start_of left down) (end_of left down) (direction_of (quarter_of left down) ahead)
direction_in left down ahead =
    let h = direction_held left down ahead in
    let e = ends left down in
    let r = direction_of (quarter_of left down) ahead in
    record {
      least = subst (λ (z : Float). T (le z r)) (sym e.start) (so h.low);
      most = so (le_trans_float r (quarter_of left down).largest (end_of left down) h.high e.end);
    }

direction_least : (left down : Bool) (ahead : Float) → T (le nought (direction_of (quarter_of left down) ahead))
direction_least left down ahead =
    so (le_trans_float nought (quarter_of left down).least (direction_of (quarter_of left down) ahead) (ends left down).zero (direction_held left down ahead).low)

direction_below : (left down : Bool) (ahead : Float) → T (lt (direction_of (quarter_of left down) ahead) whole_turn)
direction_below left down ahead =
    so (le_lt_trans (direction_of (quarter_of left down) ahead) (quarter_of left down).largest whole_turn (direction_held left down ahead).high (ends left down).under)

-- ---- the angle
pub angle_level : (dx dy : Float) → T (in_angle dx dy) → lt nought (sum_of dx dy) ≡ false → angle_of dx dy ≡ nought
unfolding angle_of
angle_level dx dy h e = simp (is_true (in_angle dx dy) h, e)

pub angle_direction : (dx dy : Float) → T (in_angle dx dy) → lt nought (sum_of dx dy) ≡ true → angle_of dx dy ≡ direction_of (quarter_of (lt dx nought) (lt dy nought)) (ahead_of dx dy)
unfolding angle_of
angle_direction dx dy h e = simp (is_true (in_angle dx dy) h, e)

-- a property of the angle: by that of nought, and that of every direction in the quarter
pub by_sum : (Q : Float → Type 0) (dx dy : Float) → T (in_angle dx dy) → (lt nought (sum_of dx dy) ≡ false → Q nought) → (lt nought (sum_of dx dy) ≡ true → Q (direction_of (quarter_of (lt dx nought) (lt dy nought)) (ahead_of dx dy))) → Q (angle_of dx dy)
by_sum Q dx dy h f g = go (lt nought (sum_of dx dy)) refl
  where
    go : (t : Bool) → lt nought (sum_of dx dy) ≡ t → Q (angle_of dx dy)
    go false e = subst Q (sym (angle_level dx dy h e)) (f e)
    go true e = subst Q (sym (angle_direction dx dy h e)) (g e)

nought_least : T (le nought nought)
unfolding le lt eq of_bits
nought_least = tt

nought_below : T (lt nought whole_turn)
unfolding lt of_bits
nought_below = tt

pub angle_least : (dx dy : Float) → T (in_angle dx dy) → T (le nought (angle_of dx dy))
angle_least dx dy h = by_sum (λ (z : Float). T (le nought z)) dx dy h (λ e. nought_least) (λ e. direction_least (lt dx nought) (lt dy nought) (ahead_of dx dy))

pub angle_below : (dx dy : Float) → T (in_angle dx dy) → T (lt (angle_of dx dy) whole_turn)
angle_below dx dy h = by_sum (λ (z : Float). T (lt z whole_turn)) dx dy h (λ e. nought_below) (λ e. direction_below (lt dx nought) (lt dy nought) (ahead_of dx dy))
