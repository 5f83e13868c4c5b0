-- Law: two floats that differ by a sign, or not at all, but for the sign of a zero. Definitions only.
use Rattle.std.specs.Prelude.{◌≡◌, ℕ, Bool, true, false, not, ℤ, Float}
use Rattle.std.specs.Float.{nan, inf, fin}

-- the other sign where b is true, and the same where it is false
abbrev pub turn : Bool → Bool → Bool
turn true s = not s
turn false s = s

-- of the magnitude m, the sign t is s turned by b. A zero has any sign
pub data Signs (b s t : Bool) (m : ℕ) : Type 0 where
  turned : t ≡ turn b s → Signs b s t m
  no_sign : m ≡ 0 → Signs b s t m

-- y is x with its sign turned by b, but for the sign of a zero. A not-a-number goes with a not-a-number
pub data Turned (b : Bool) : Float → Float → Type 0 where
  of_nan : Turned b nan nan
  of_inf : {s t : Bool} → t ≡ turn b s → Turned b (inf s) (inf t)
  of_fin : {s t : Bool} {m : ℕ} {e : ℤ} → Signs b s t m → Turned b (fin s m e) (fin t m e)

-- y is -x, and y is x, as numbers: plus and minus zero count as equal
abbrev pub Opp : Float → Float → Type 0
Opp x y = Turned true x y

abbrev pub Same : Float → Float → Type 0
Same x y = Turned false x y
