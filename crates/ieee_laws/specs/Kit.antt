-- Law: what IEEE 754-2019 asks of product, quotient, difference and the float of a whole number, as `Operations` of `ieee` has it for the others. `proofs/Kit.antt` shows it of `lib.Ieee`'s own. Definitions only.
use Rattle.std.specs.Prelude.{◌≡◌, zero, suc, ◌*◌, true, false, ℤ, pos, negsuc, Float}
use Rattle.std.specs.Float.{nan, inf, fin, Format}
use Rattle.std.specs.Float.Ieee.{up, down, unlike, neg}
use Rattle.ieee.specs.Rounding.{RoundTiesToEven}
use Rattle.ieee.specs.Operations.{IsSum}

-- ---- r is x - y
abbrev pub IsDifference : Format → Float → Float → Float → Type 0
IsDifference f x y r = IsSum f x (neg y) r

-- ---- r is x * y
abbrev pub IsProduct : Format → Float → Float → Float → Type 0
IsProduct f nan y r = r ≡ nan
IsProduct f (inf s) nan r = r ≡ nan
IsProduct f (inf s) (inf t) r = r ≡ inf (unlike s t)
IsProduct f (inf s) (fin t zero d) r = r ≡ nan
IsProduct f (inf s) (fin t (suc n) d) r = r ≡ inf (unlike s t)
IsProduct f (fin s m e) nan r = r ≡ nan
IsProduct f (fin s zero e) (inf t) r = r ≡ nan
IsProduct f (fin s (suc m) e) (inf t) r = r ≡ inf (unlike s t)
IsProduct f (fin s m e) (fin t n d) r = RoundTiesToEven f (unlike s t) (m * up e * (n * up d)) (down e * down d) r

-- ---- r is x / y
abbrev pub IsQuotient : Format → Float → Float → Float → Type 0
IsQuotient f nan y r = r ≡ nan
IsQuotient f (inf s) nan r = r ≡ nan
IsQuotient f (inf s) (inf t) r = r ≡ nan
IsQuotient f (inf s) (fin t n d) r = r ≡ inf (unlike s t)
IsQuotient f (fin s m e) nan r = r ≡ nan
IsQuotient f (fin s m e) (inf t) r = r ≡ fin (unlike s t) 0 (pos 0)
IsQuotient f (fin s zero e) (fin t zero d) r = r ≡ nan
IsQuotient f (fin s (suc m) e) (fin t zero d) r = r ≡ inf (unlike s t)
IsQuotient f (fin s m e) (fin t (suc n) d) r = RoundTiesToEven f (unlike s t) (m * up e * down d) (suc n * up d * down e) r

-- ---- r is the float of a whole number
abbrev pub IsWhole : Format → ℤ → Float → Type 0
IsWhole f (pos n) r = RoundTiesToEven f false n 1 r
IsWhole f (negsuc n) r = RoundTiesToEven f true (suc n) 1 r
