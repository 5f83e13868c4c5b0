-- `add_part` meets its contract: where the part is exact, the two operations round once. Assumes nothing.
use mathlib.Core.Path.{◌≡◌, sym, subst}
use mathlib.Core.Bool.{Bool, true, ◌||◌}
use lib.Dec.{T}
use lib.Ieee.{Float, of_bits, le, eq}
use Rattle.ieee.proofs.Parted.{Bound, least, weight, part_once}
use Rattle.ieee_fused.proofs.add_part.Goals as goal
use Rattle.ieee_fused.proofs.add_part.Goals.{Then-a}

-- the bound that the code tests
left : (b a : Float) (t : Bool) → (le b a || t) ≡ true → Float
left b a t h = b

abbrev tested : Then-a → Float
tested c = left _ _ _ c.if-a.true

bound : (c : Then-a) → Bound (tested c)
unfolding left of_bits le least
bound c = record { number = tt; enough = tt }

-- the two weights that it tests
first : (w u v : Float) → (eq w u || eq w v) ≡ true → Float
first w u v h = u

second : (w u v : Float) → (eq w u || eq w v) ≡ true → Float
second w u v h = v

abbrev one : Then-a → Float
one c = first _ _ _ c.if-w.true

abbrev other : Then-a → Float
other c = second _ _ _ c.if-w.true

one_weighs : (c : Then-a) → T (weight (one c))
unfolding first of_bits weight
one_weighs c = tt

other_weighs : (c : Then-a) → T (weight (other c))
unfolding second of_bits weight
other_weighs c = tt

pub returns-then-a : goal.returns-then-a
unfolding left first second
returns-then-a c =
    part_once c.args.a c.args.w c.args.c (tested c) (one c) (other c) (subst T (sym c.well_formed.0.1) tt) (bound c) (one_weighs c) (other_weighs c) c.if-w.true c.if-a.true
