-- `fma_finite` meets its contract: the product of the significands is exact, and the sum of the parts is the fused operation. Assumes nothing.
use mathlib.Core.Path.{◌≡◌, sym, ◌∙◌}
use mathlib.Core.Bool.{Bool}
use Prim.Native.Nat.{ℕ, ◌+◌, ◌*◌, ◌^◌}
use native.Mathlib.Omega.{arith}
use lib.Ieee.{Float, binary32, unlike, sum}
use Rattle.packing.specs.Parts.{Splits}
use Rattle.ieee.specs.Fused.{fma}
use Rattle.ieee.proofs.Product.{fma_parts}
use Rattle.ieee.proofs.Doubled.{product_lt}
use Rattle.ieee_fused.proofs.fma_finite.Goals as goal

-- the sum of the parts is the fused operation
summed : (a b c r : Float) (s t u : Bool) (m n p i j k : ℕ) → Splits 149 24 253 a s m i → Splits 149 24 253 b t n j → Splits 149 24 253 c u p k
    → r ≡ sum binary32 (unlike s t) (m * n * 2 ^ (i + j)) u (p * 2 ^ (k + 149)) (2 ^ 298) → r ≡ fma binary32 a b c
summed a b c r s t u m n p i j k A B C e = e ∙ sym (fma_parts binary32 a b c s t u m n p i j k 149 A.value B.value C.value)

pub overflow_mul-p : goal.overflow_mul-p
overflow_mul-p c =
    let u = c.unpack-p in
    let v = c.unpack-q in
    omega (arith, product_lt u.result.significand v.result.significand u.ensures.digits v.ensures.digits)

pub add_scaled-requires : goal.add_scaled-requires
add_scaled-requires c =
    let u = c.unpack-p in
    let v = c.unpack-q in
    let w = c.unpack-r in
    (product_lt u.result.significand v.result.significand u.ensures.digits v.ensures.digits, omega (arith, w.ensures.digits), omega (arith, u.ensures.place, v.ensures.place), omega (arith, w.ensures.place))

pub returns : goal.returns
returns c =
    let u = c.unpack-p in
    let v = c.unpack-q in
    let w = c.unpack-r in
    summed _ _ _ _ _ _ _ _ _ _ _ _ _ u.ensures v.ensures w.ensures c.add_scaled.ensures
