-- The whole part of a number above zero, downward, is the integer that a cast gives: `std::num`'s casts work `floor` out. Over either format. Assumes nothing.
use Rattle.std.proofs.Common.{◌≡◌, ℕ, ◌-◌, ◌*◌, ◌/◌, ◌^◌, ◌<◌, min, true, false, T, eqb, pos, sym, refl, ap, ◌∙◌, zero-le, div-lt_iff_lt-mul, one-mul, zero-mul, mul-one, arith, eqb→eq, ltb→lt}
use lib.Ieee.{Float, nan, inf, fin, Format, up, down, round, lt, eq, fits, of_int, to_unsigned}
use lib.Ieee.Fits.{down_pos, and_l, round-fits}
use lib.Ieee.Back.{round_whole, whole_unique}
use Rattle.ieee.specs.Whole.{floor}
use Rattle.ieee_laws.proofs.TurnedOps.{floor_size_zero}

capped : (a c : ℕ) → a < c → a ≡ min a (c - 1)
capped a c h = omega arith

-- an x above 0 and below 2 ^ w
pub floor_unsigned : (f : Format) (w : ℕ) (x : Float) → T (lt (fin false 0 (pos 0)) x) → T (lt x (fin false 1 (pos w))) → floor f x ≡ of_int f (pos (to_unsigned w x))
unfolding floor of_int to_unsigned lt
floor_unsigned f w nan h g = absurd h
floor_unsigned f w (inf true) h g = absurd h
floor_unsigned f w (inf false) h g = absurd g
floor_unsigned f w (fin true m e) h g = absurd h
floor_unsigned f w (fin false m e) h g = ap (λ (k : ℕ). round f false k 1) (capped (m * up e / down e) (2 ^ w) ((div-lt_iff_lt-mul (down_pos e)).1 (in_range (m * up e) (2 ^ w) (down e) (ltb→lt (m * up e * 1) (1 * 2 ^ w * down e) g))))
  where
    in_range : (a c d : ℕ) → a * 1 < 1 * c * d → a < c * d
    in_range a c d l = rw (mul-one, one-mul) at l

-- a zero, of either sign, stays as it is
pub floor_zero : (f : Format) (x : Float) → T (fits f x) → T (eq x (fin false 0 (pos 0))) → floor f x ≡ x
unfolding floor eq
floor_zero f nan h g = absurd g
floor_zero f (inf s) h g = absurd g
floor_zero f (fin s m e) h g =
    let z : m * up e * 1 ≡ 0 * 1 * down e = eqb→eq (m * up e * 1) (0 * 1 * down e) (and_l (eqb (m * up e * 1) (0 * 1 * down e)) _ g) in
    let y : m * up e ≡ 0 = sym (mul-one (m * up e)) ∙ z ∙ zero-mul (down e) in
    ap (λ (k : ℕ). round f s k 1) (floor_size_zero s (m * up e) (down e) (down_pos e) y)
    ∙ whole_unique f (round f s 0 1) (fin s m e) s 0 (round-fits f s 0 1) h (round_whole f s 0 zero-le) (refl, z)
