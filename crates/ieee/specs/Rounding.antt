-- Rule I1, roundTiesToEven of IEEE 754-2019, said on its own: when is the float r the exact number ±n / d, rounded? In whole numbers throughout: nothing here divides, and nothing computes a rounding.
-- `proofs/Rounded.antt` shows it of `lib.Ieee`'s `round`, for both formats and every fraction, and the crate `ieee_laws` that it leaves no choice: one r at most meets it. Definitions only.
use Rattle.std.specs.Prelude.{ℕ, suc, ◌+◌, ◌-◌, ◌*◌, ◌%◌, ◌^◌, ◌<◌, ◌≤◌, ◌≡◌, ◌⊎◌, Bool, T, Float}
use Rattle.std.specs.Float.{nan, inf, fin, Format}
use Rattle.std.specs.Float.Ieee.{prec, emax, low, up, down, fits}

-- ---- the finite numbers of a format (IEEE 754-2019, 3.3): p is `prec`, 24 or 53, and emax is 127 or 1023

-- They are ±c * 2 ^ q with whole c and q, 0 ≤ c < 2 ^ p, and 1 - emax ≤ q + p - 1 ≤ emax. So the least q is 2 - emax - p, which is -low (-149, -1074), and the largest is 2 * emax - 1 above it.
-- Each is thus c * 2 ^ k units, where a unit is 2 ^ -low, the least number above zero: q = k - low, and k runs from 0 to 2 * emax - 1.
pub record Number (f : Format) (c k : ℕ) : Type 0 where
  pub digits : c < 2 ^ prec f
  pub place : k < 2 * emax f

-- c is the significand as the format stores it: all p digits are in use, or the exponent is the least (zero and the subnormal numbers). Each number has one such c and k.
pub record Significand (f : Format) (c k : ℕ) : Type 0 where
  pub number : Number f c k
  pub full : (k ≡ 0) ⊎ (2 ^ (prec f - 1) ≤ c)

-- r is finite, and a units in size. (`fin s m e` is m * 2 ^ e, and 2 ^ e is up e / down e.)
abbrev pub Size : Format → Float → ℕ → Type 0
Size f nan a = ⊥
Size f (inf s) a = ⊥
Size f (fin s m e) a = m * up e * 2 ^ low f ≡ a * down e

-- s is r's sign: true for minus. A zero has one too.
abbrev pub Signed : Float → Bool → Type 0
Signed nan s = ⊥
Signed (inf t) s = t ≡ s
Signed (fin t m e) s = t ≡ s

-- ---- how far n / d is from a units, times d * 2 ^ low, so that it is a whole number: |a * d - n * 2 ^ low|. (Of a - b and b - a one is 0 here, as no number is negative.)
abbrev pub apart : ℕ → ℕ → ℕ
apart a b = a - b + (b - a)

abbrev pub distance : Format → ℕ → ℕ → ℕ → ℕ
distance f n d a = apart (a * d) (n * 2 ^ low f)

-- ---- n / d is below 2 ^ emax * (2 - 2 ^ -p), and it is not. That is the largest number and half a step more: from there on the standard has an infinity (4.3.1). Both sides are multiplied by d * 2 ^ p.
abbrev pub threshold : Format → ℕ
threshold f = 2 ^ emax f * (2 ^ suc (prec f) - 1)

abbrev pub Within : Format → ℕ → ℕ → Type 0
Within f n d = n * 2 ^ prec f < threshold f * d

abbrev pub Beyond : Format → ℕ → ℕ → Type 0
Beyond f n d = threshold f * d ≤ n * 2 ^ prec f

-- ---- r is c * 2 ^ k units, and no number of the format is nearer to n / d; where another one is as near, c is even.
-- (Sizes are enough. r has the exact number's sign, and a number of the other sign is no nearer than zero, which is c = 0.)
pub record Nearest (f : Format) (n d : ℕ) (r : Float) : Type 0 where
  pub c : ℕ
  pub k : ℕ
  pub significand : Significand f c k
  pub size : Size f r (c * 2 ^ k)
  pub nearest : (y j : ℕ) → Number f y j → distance f n d (c * 2 ^ k) ≤ distance f n d (y * 2 ^ j)
  pub even : (y j : ℕ) → Number f y j → (y * 2 ^ j ≡ c * 2 ^ k → ⊥) → distance f n d (y * 2 ^ j) ≡ distance f n d (c * 2 ^ k) → c % 2 ≡ 0

-- ---- r is ±n / d rounded to the nearest, ties to even; s is the sign, and d is not 0
pub record RoundTiesToEven (f : Format) (s : Bool) (n d : ℕ) (r : Float) : Type 0 where
  pub held : T (fits f r)
  pub sign : Signed r s
  pub within : Within f n d → Nearest f n d r
  pub beyond : Beyond f n d → r ≡ inf s
