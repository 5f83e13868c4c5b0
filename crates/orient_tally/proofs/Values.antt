-- Bounds of a bin. Assumes nothing.
use Prim.Native.Nat.{ℕ, ◌+◌, ◌-◌, ◌%◌, ◌≤◌, ◌<◌}
use mathlib.Core.Path.{◌≡◌, refl, ap}
use mathlib.Core.Bool.{Bool, true, false, not, ◌&&◌}
use native.Mathlib.Omega.{arith}
use borrow.Author.Tests.{le-leb, lt-leb}
use lib.Dec.{T, eqb, eqb→eq}
use lib.IntN.{pos}
use lib.Ieee.{Float, fin, binary32, of_bits, to_bits, of_int, is_nan, mul, lt, le, to_unsigned}
use Rattle.lists.specs.Ranges.{every}
use Rattle.lists.proofs.Every.{every_all}
use Rattle.lists.proofs.Bools.{and_both, is_T}
use Rattle.ieee.specs.F32.{◌⊕◌, ◌⊗◌, rounded}
use Rattle.ieee.specs.Whole.{round_even}
use Rattle.ieee_laws.proofs.Order.{le_lt_trans, lt_le}
use Rattle.ieee_laws.proofs.Bounds.{Bounds, bounds_point, mul_bounds, round_even_bounds}
use Rattle.hal_angle.specs.Angle.{angle_of}
use Rattle.hal_reach.specs.Reach.{in_angle}
use Rattle.hal_angle.proofs.Rules.{angle_rule}
use Rattle.ieee_laws.proofs.Cuts.{Cuts, cuts}
use Rattle.orient_tally.specs.Sample.{bins, tenth, bin_of}
use Rattle.orient_tally.proofs.Lifted.{significand, place, lifts, amount, lift, lifted}

of_T : (b : Bool) → T b → b ≡ true
of_T true h = refl
of_T false h = absurd h

abbrev pub turn : Float
turn = fin false 45 (pos 3)

-- 40: no turn reaches it
abbrev pub forty : Float
forty = fin false 5 (pos 3)

-- the sum of the turn and the lift is a number whose last six bits are the turn, rounded
pub record Binned (a : Float) : Type 0 where
  pub fine : T (not (is_nan (tenth ⊗ a ⊕ lift)))
  pub is : to_bits binary32 (tenth ⊗ a ⊕ lift) % 64 ≡ to_unsigned 64 (rounded (tenth ⊗ a))
  pub size : to_unsigned 64 (rounded (tenth ⊗ a)) ≤ bins

-- a whole number of at most 36 above the lift
abbrev raised : ℕ → Float
raised j = of_int binary32 (pos (j + amount))

abbrev shows : ℕ → Bool
shows j = not (is_nan (raised j)) && eqb (to_bits binary32 (raised j) % 64) j

all_show : every (bins + 1) shows ≡ true
unfolding every of_int to_bits is_nan
all_show = refl

last_bits : (j : ℕ) → j < bins + 1 → T (not (is_nan (raised j))) × (to_bits binary32 (raised j) % 64 ≡ j)
last_bits j h =
    let p = and_both (not (is_nan (raised j))) _ (every_all (bins + 1) shows all_show j h) in
    (is_T _ p.0, eqb→eq _ _ (is_T _ p.1))

module _ (a : Float) (low : T (le (fin false 0 (pos 0)) a)) (high : T (lt a turn)) where
  turn_bounds : Bounds (fin false 0 (pos 0)) turn a
  turn_bounds = record { from = refl; to = refl; low = of_T _ low; high = lt_le a turn (of_T _ high) }

  tenth_bounds : Bounds (tenth ⊗ fin false 0 (pos 0)) (tenth ⊗ turn) (tenth ⊗ a)
  unfolding of_bits mul le
  tenth_bounds = mul_bounds binary32 refl refl refl refl (bounds_point tenth refl) turn_bounds

  pub bin_small : lt (tenth ⊗ a) forty ≡ true
  unfolding of_bits mul lt
  bin_small = le_lt_trans (tenth ⊗ a) (tenth ⊗ turn) forty tenth_bounds.high refl

  bin_cuts : Cuts bins (rounded (tenth ⊗ a))
  unfolding of_bits mul lt round_even to_unsigned
  bin_cuts = cuts bins refl refl (omega arith) (round_even_bounds binary32 refl refl tenth_bounds)

  bin_least : le (fin false 0 (pos 0)) (tenth ⊗ a) ≡ true
  unfolding of_bits mul
  bin_least = tenth_bounds.low

  pub binned : Binned a
  binned =
      let n = to_unsigned 64 (rounded (tenth ⊗ a)) in
      let s : n ≤ bins = bin_cuts.size in
      let e = lifted significand place amount refl lifts (tenth ⊗ a) bin_least bin_small in
      let r = last_bits n (omega arith) in
      record { fine = rw e r.0; is = rw e r.1; size = s }

-- of a direction in the routine's range
pub binned_in : (dx dy : Float) → in_angle dx dy ≡ true → Binned (angle_of dx dy)
unfolding of_bits
binned_in dx dy e = binned (angle_of dx dy) (angle_rule.least dx dy (is_T _ e)) (angle_rule.below dx dy (is_T _ e))

bin_high : (a : Float) (b : ℕ) → b ≡ to_unsigned 64 (rounded (tenth ⊗ a)) → bins ≤ b → bin_of a ≡ b - bins
unfolding bin_of
bin_high a b e h = rw (← e, le-leb bins b h)

bin_low : (a : Float) (b : ℕ) → b ≡ to_unsigned 64 (rounded (tenth ⊗ a)) → b < bins → bin_of a ≡ b
unfolding bin_of
bin_low a b e h = rw (← e, lt-leb bins b h)

-- the bin as the code finds it: the last six bits, or as much less a whole turn
abbrev found : Float → ℕ
found a = to_bits binary32 (tenth ⊗ a ⊕ lift) % 64

pub found_high : (dx dy a : Float) → a ≡ angle_of dx dy → in_angle dx dy ≡ true → bins ≤ found a → (found a - bins ≡ bin_of (angle_of dx dy)) × (found a - bins < bins)
found_high dx dy a e h l =
    let r = binned_in dx dy h in
    let z : found a ≡ found (angle_of dx dy) = ap found e in
    let b = bin_high (angle_of dx dy) (found (angle_of dx dy)) r.is (omega arith) in
    (omega arith, omega (arith, r.is, r.size))

pub found_low : (dx dy a : Float) → a ≡ angle_of dx dy → in_angle dx dy ≡ true → found a < bins → (found a ≡ bin_of (angle_of dx dy)) × (found a < bins)
found_low dx dy a e h l =
    let r = binned_in dx dy h in
    let z : found a ≡ found (angle_of dx dy) = ap found e in
    let b = bin_low (angle_of dx dy) (found (angle_of dx dy)) r.is (omega arith) in
    (omega arith, l)
