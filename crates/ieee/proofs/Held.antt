-- The result of each operation that this crate adds is a value of its format. Only where an operand can come back unrounded is something asked of it. Assumes nothing.
use Prim.Native.Nat.{ℕ, zero, suc, ◌*◌, ◌/◌, ◌^◌}
use mathlib.Core.Path.{sym, subst}
use mathlib.Core.Bool.{Bool, true, false}
use lib.Dec.{T}
use lib.Ieee.{Float, nan, inf, fin, Format, low, up, down, unlike, sum, mul, fits}
use lib.Ieee.Fits.{round-fits, add-fits, nan-fits, inf-fits}
use lib.Ieee.Nearest.{closest}
use Rattle.ieee.specs.Fused.{fma, convert}
use Rattle.ieee.specs.Root.{sqrt, halves}
use Rattle.ieee.specs.Whole.{floor_size, floor, round_even}
use Rattle.ieee.specs.F32.{abs_of}
use Rattle.ieee.proofs.Twice.{sum_rounds}

pub sum_fits : (f : Format) (s : Bool) (a : ℕ) (t : Bool) (b c : ℕ) → T (fits f (sum f s a t b c))
sum_fits f s a t b c =
    let r = sum_rounds s a t b c in
    subst (λ (x : Float). T (fits f x)) (sym (r.2 f)) (round-fits f r.0 r.1 c)

pub fma_fits : (f : Format) (x y z : Float) → T (fits f (fma f x y z))
unfolding fma
fma_fits f nan y z = nan-fits f
fma_fits f (inf s) y z = add-fits f (mul f (inf s) y) z
fma_fits f (fin s m e) nan z = nan-fits f
fma_fits f (fin s m e) (inf t) z = add-fits f (mul f (fin s m e) (inf t)) z
fma_fits f (fin s m e) (fin t n d) nan = nan-fits f
fma_fits f (fin s m e) (fin t n d) (inf u) = inf-fits f u
fma_fits f (fin s m e) (fin t n d) (fin u p g) =
    sum_fits f (unlike s t) (m * up e * (n * up d) * down g) u (p * up g * (down e * down d)) (down e * down d * down g)

pub convert_fits : (f : Format) (x : Float) → T (fits f (convert f x))
unfolding convert
convert_fits f nan = nan-fits f
convert_fits f (inf s) = inf-fits f s
convert_fits f (fin s m e) = round-fits f s (m * up e) (down e)

-- a zero comes back as it is
pub sqrt_fits : (f : Format) (x : Float) → T (fits f x) → T (fits f (sqrt f x))
unfolding sqrt
sqrt_fits f nan h = nan-fits f
sqrt_fits f (inf true) h = nan-fits f
sqrt_fits f (inf false) h = inf-fits f false
sqrt_fits f (fin s zero e) h = h
sqrt_fits f (fin true (suc m) e) h = nan-fits f
sqrt_fits f (fin false (suc m) e) h = round-fits f false (halves (suc m * up e * 4 ^ low f / down e)) (2 * 2 ^ low f)

pub floor_fits : (f : Format) (x : Float) → T (fits f (floor f x))
unfolding floor
floor_fits f nan = nan-fits f
floor_fits f (inf s) = inf-fits f s
floor_fits f (fin s m e) = round-fits f s (floor_size s (m * up e) (down e)) 1

pub round_even_fits : (f : Format) (x : Float) → T (fits f (round_even f x))
unfolding round_even
round_even_fits f nan = nan-fits f
round_even_fits f (inf s) = inf-fits f s
round_even_fits f (fin s m e) = round-fits f s (closest (m * up e) (down e)) 1

pub abs_fits : (f : Format) (x : Float) → T (fits f x) → T (fits f (abs_of x))
unfolding abs_of fits
abs_fits f nan h = h
abs_fits f (inf s) h = h
abs_fits f (fin s zero e) h = h
abs_fits f (fin s (suc m) e) h = h
