-- `lib.Ieee`'s difference, product, quotient and float of a whole number are IEEE 754-2019's, for both formats. Assumes nothing.
use Rattle.std.proofs.Common.{zero, suc, ◌*◌, true, false, ℤ, pos, negsuc, refl, zero-lt-suc, mul-pos}
use lib.Ieee.{Float, nan, inf, fin, Format, up, down, unlike, neg, sub, mul, div, of_int}
use lib.Ieee.Fits.{up_pos, down_pos}
use Rattle.ieee.proofs.Rounded.{round_ties}
use Rattle.ieee.proofs.Operations.{sum_ieee, not_zero}
use Rattle.ieee_laws.specs.Kit.{IsDifference, IsProduct, IsQuotient, IsWhole}

pub difference_ieee : (f : Format) (x y : Float) → IsDifference f x y (sub f x y)
unfolding sub
difference_ieee f x y = sum_ieee f x (neg y)

pub product_ieee : (f : Format) (x y : Float) → IsProduct f x y (mul f x y)
unfolding mul
product_ieee f nan y = refl
product_ieee f (inf s) nan = refl
product_ieee f (inf s) (inf t) = refl
product_ieee f (inf s) (fin t zero d) = refl
product_ieee f (inf s) (fin t (suc n) d) = rw (not_zero n)
product_ieee f (fin s m e) nan = refl
product_ieee f (fin s zero e) (inf t) = refl
product_ieee f (fin s (suc m) e) (inf t) = rw (not_zero m)
product_ieee f (fin s m e) (fin t n d) = round_ties f (unlike s t) (m * up e * (n * up d)) (down e * down d) (mul-pos (down_pos e) (down_pos d))

pub quotient_ieee : (f : Format) (x y : Float) → IsQuotient f x y (div f x y)
unfolding div
quotient_ieee f nan y = refl
quotient_ieee f (inf s) nan = refl
quotient_ieee f (inf s) (inf t) = refl
quotient_ieee f (inf s) (fin t n d) = refl
quotient_ieee f (fin s m e) nan = refl
quotient_ieee f (fin s m e) (inf t) = refl
quotient_ieee f (fin s zero e) (fin t zero d) = refl
quotient_ieee f (fin s (suc m) e) (fin t zero d) = rw (not_zero m)
quotient_ieee f (fin s m e) (fin t (suc n) d) =
    rw (not_zero n) (round_ties f (unlike s t) (m * up e * down d) (suc n * up d * down e) (mul-pos (mul-pos (zero-lt-suc n) (up_pos d)) (down_pos e)))

pub whole_ieee : (f : Format) (z : ℤ) → IsWhole f z (of_int f z)
unfolding of_int
whole_ieee f (pos n) = round_ties f false n 1 (zero-lt-suc 0)
whole_ieee f (negsuc n) = round_ties f true (suc n) 1 (zero-lt-suc 0)
