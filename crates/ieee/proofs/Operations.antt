-- `lib.Ieee`'s sum, and `fma` and `convert`, are IEEE 754-2019's, for both formats. Assumes nothing.
use Prim.Native.Nat.{ℕ, zero, suc, ◌*◌}
use mathlib.Core.Path.{◌≡◌, refl, sym, subst}
use mathlib.Core.Bool.{Bool, true, false, cond, ◌&&◌}
use native.Mathlib.Nat.{mul-pos}
use native.Mathlib.Omega.{arith}
use borrow.Author.Tests.{ne_eqb}
use lib.Dec.{eqb}
use lib.IntN.{ℤ}
use lib.Ieee.{Float, nan, inf, fin, Format, up, down, unlike, add, mul}
use lib.Ieee.Fits.{down_pos}
use Rattle.ieee.specs.Fused.{fma, convert}
use Rattle.ieee.specs.Operations.{signed_of, RoundedSum, IsSum, IsFma, IsConverted}
use Rattle.ieee.proofs.Rounded.{round_ties}
use Rattle.ieee.proofs.Summed.{times_signed, sum_rounded}

endless : (f : Format) (s t : Bool) → add f (inf s) (inf t) ≡ cond (unlike s t) nan (inf s)
unfolding add
endless f true true = refl
endless f true false = refl
endless f false true = refl
endless f false false = refl

pub sum_ieee : (f : Format) (x y : Float) → IsSum f x y (add f x y)
unfolding add
sum_ieee f nan y = refl
sum_ieee f (inf s) nan = refl
sum_ieee f (inf s) (inf t) = endless f s t
sum_ieee f (inf s) (fin t n d) = refl
sum_ieee f (fin s m e) nan = refl
sum_ieee f (fin s m e) (inf t) = refl
sum_ieee f (fin s m e) (fin t n d) = sum_rounded f s (m * up e) (down e) t (n * up d) (down d) (down_pos e) (down_pos d)

-- the exact product of two finite numbers takes part in the sum
finite_fma : (f : Format) (s : Bool) (m : ℕ) (e : ℤ) (t : Bool) (n : ℕ) (d : ℤ) (u : Bool) (k : ℕ) (g : ℤ) → IsFma f (fin s m e) (fin t n d) (fin u k g) (fma f (fin s m e) (fin t n d) (fin u k g))
unfolding fma
finite_fma f s m e t n d u k g =
    subst (λ (a : ℤ). RoundedSum f a (down e * down d) (signed_of u (k * up g)) (down g) (unlike s t && u) (fma f (fin s m e) (fin t n d) (fin u k g))) (sym (times_signed s t (m * up e) (n * up d)))
    (sum_rounded f (unlike s t) (m * up e * (n * up d)) (down e * down d) u (k * up g) (down g) (mul-pos (down_pos e) (down_pos d)) (down_pos g))

pub not_zero : (n : ℕ) → eqb (suc n) 0 ≡ false
not_zero n = ne_eqb (suc n) 0 (λ z. omega arith)

pub fma_ieee : (f : Format) (x y z : Float) → IsFma f x y z (fma f x y z)
unfolding fma mul add
fma_ieee f nan y z = refl
fma_ieee f (inf s) nan z = refl
fma_ieee f (inf s) (inf t) z = sum_ieee f (inf (unlike s t)) z
fma_ieee f (inf s) (fin t zero d) z = refl
fma_ieee f (inf s) (fin t (suc n) d) z = rw (not_zero n) (sum_ieee f (inf (unlike s t)) z)
fma_ieee f (fin s m e) nan z = refl
fma_ieee f (fin s zero e) (inf t) z = refl
fma_ieee f (fin s (suc m) e) (inf t) z = rw (not_zero m) (sum_ieee f (inf (unlike s t)) z)
fma_ieee f (fin s m e) (fin t n d) nan = refl
fma_ieee f (fin s m e) (fin t n d) (inf u) = refl
fma_ieee f (fin s m e) (fin t n d) (fin u k g) = finite_fma f s m e t n d u k g

pub convert_ieee : (f : Format) (x : Float) → IsConverted f x (convert f x)
unfolding convert
convert_ieee f nan = refl
convert_ieee f (inf s) = refl
convert_ieee f (fin s m e) = round_ties f s (m * up e) (down e) (down_pos e)
