-- Rules I1 to I4: what IEEE 754-2019 asks of the operations that round once. A table each, by what the operands are. Finite operands give their exact result, rounded (`RoundTiesToEven`); the other rows say what becomes of
-- an exact zero, an infinity and what is not a number (5.4.1, 5.4.2, 6.1 to 6.3, 7.2). The contracts of `mul_add`, `narrow` and `sqrt` cite them. Definitions only.
use Rattle.std.specs.Prelude.{ℕ, zero, suc, ◌+◌, ◌*◌, ◌^◌, ◌<◌, ◌≡◌, Bool, true, false, cond, ◌&&◌, T, ℤ, pos, neg_ℤ, ◌+ℤ◌, ◌*ℤ◌, Float}
use Rattle.std.specs.Float.{nan, inf, fin, Format}
use Rattle.std.specs.Float.Ieee.{low, up, down, unlike, fits}
use Rattle.ieee.specs.Rounding.{Number, Significand, Size, Signed, RoundTiesToEven}

-- ±n. A finite float `fin s m e` is the fraction signed_of s (m * up e) / down e; no other float is one
abbrev pub signed_of : Bool → ℕ → ℤ
signed_of s n = cond s (neg_ℤ (pos n)) (pos n)

-- ---- r is a / i + b / j, rounded, by whatever fraction ±n / d that is written: the denominators are multiplied out. Where it is zero, r is the zero of the sign o
pub record RoundedSum (f : Format) (a : ℤ) (i : ℕ) (b : ℤ) (j : ℕ) (o : Bool) (r : Float) : Type 0 where
  pub rounded : (s : Bool) (n d : ℕ) → 0 < n → 0 < d → signed_of s n *ℤ pos (i * j) ≡ (a *ℤ pos j +ℤ b *ℤ pos i) *ℤ pos d → RoundTiesToEven f s n d r
  pub exact_zero : a *ℤ pos j +ℤ b *ℤ pos i ≡ pos 0 → r ≡ fin o 0 (pos 0)

-- ---- r is x + y. An exact zero is -0 where both have the sign minus, and +0 otherwise
abbrev pub IsSum : Format → Float → Float → Float → Type 0
IsSum f nan y r = r ≡ nan
IsSum f (inf s) nan r = r ≡ nan
IsSum f (inf s) (inf t) r = r ≡ cond (unlike s t) nan (inf s)
IsSum f (inf s) (fin t n d) r = r ≡ inf s
IsSum f (fin s m e) nan r = r ≡ nan
IsSum f (fin s m e) (inf t) r = r ≡ inf t
IsSum f (fin s m e) (fin t n d) r = RoundedSum f (signed_of s (m * up e)) (down e) (signed_of t (n * up d)) (down d) (s && t) r

-- ---- r is x * y + z, rounded once (rule I2). A finite product takes part exactly; an infinite one is added as an infinity; 0 * infinity is not a number, whatever z is
abbrev pub IsFma : Format → Float → Float → Float → Float → Type 0
IsFma f nan y z r = r ≡ nan
IsFma f (inf s) nan z r = r ≡ nan
IsFma f (inf s) (inf t) z r = IsSum f (inf (unlike s t)) z r
IsFma f (inf s) (fin t zero d) z r = r ≡ nan
IsFma f (inf s) (fin t (suc n) d) z r = IsSum f (inf (unlike s t)) z r
IsFma f (fin s m e) nan z r = r ≡ nan
IsFma f (fin s zero e) (inf t) z r = r ≡ nan
IsFma f (fin s (suc m) e) (inf t) z r = IsSum f (inf (unlike s t)) z r
IsFma f (fin s m e) (fin t n d) nan r = r ≡ nan
IsFma f (fin s m e) (fin t n d) (inf u) r = r ≡ inf u
IsFma f (fin s m e) (fin t n d) (fin u k g) r =
    RoundedSum f (signed_of s (m * up e) *ℤ signed_of t (n * up d)) (down e * down d) (signed_of u (k * up g)) (down g) (unlike s t && u) r

-- ---- r is x, of any format, at the format f (rule I4). A zero keeps its sign: there the fraction is 0, and the sign s
abbrev pub IsConverted : Format → Float → Float → Type 0
IsConverted f nan r = r ≡ nan
IsConverted f (inf s) r = r ≡ inf s
IsConverted f (fin s m e) r = RoundTiesToEven f s (m * up e) (down e) r

-- ---- r is the root of n / d, rounded. There are no real numbers here, so both sides are squared: in units the root is √(n / d) * 2 ^ low, and half way between r and another number of the format is
-- (c * 2 ^ k + y * 2 ^ j) / 2. The root is on r's side of that, and never on it: a root is no tie.
abbrev pub square : ℕ → ℕ
square a = a * a

pub record NearestRoot (f : Format) (n d : ℕ) (r : Float) : Type 0 where
  pub c : ℕ
  pub k : ℕ
  pub held : T (fits f r)
  pub sign : Signed r false
  pub significand : Significand f c k
  pub size : Size f r (c * 2 ^ k)
  pub above : (y j : ℕ) → Number f y j → c * 2 ^ k < y * 2 ^ j → 4 * (n * square (2 ^ low f)) < square (c * 2 ^ k + y * 2 ^ j) * d
  pub below : (y j : ℕ) → Number f y j → y * 2 ^ j < c * 2 ^ k → square (c * 2 ^ k + y * 2 ^ j) * d < 4 * (n * square (2 ^ low f))

-- ---- r is the root of x (rule I3). The root of a zero is that zero, and what is below zero has none
abbrev pub IsRoot : Format → Float → Float → Type 0
IsRoot f nan r = r ≡ nan
IsRoot f (inf true) r = r ≡ nan
IsRoot f (inf false) r = r ≡ inf false
IsRoot f (fin s zero e) r = r ≡ fin s zero e
IsRoot f (fin true (suc m) e) r = r ≡ nan
IsRoot f (fin false (suc m) e) r = NearestRoot f (suc m * up e) (down e) r
