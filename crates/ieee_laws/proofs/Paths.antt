-- The short paths and the general path agree: whatever meets the contract of the one and whatever meets that of the other are the same float. So which path a call of
-- `mul_add` or `narrow` takes is a matter of time alone. Each premise is a contract of the code, as its comment names it. Assumes nothing.
use Rattle.std.proofs.Common.{◌≡◌, ℕ, ◌+◌, ◌*◌, ◌^◌, Bool, T, sym, ap, ◌∙◌, subst}
use lib.Ieee.{Float, binary32, binary64, unlike, round, sum, mul, fits, to_bits, of_bits}
use lib.Ieee.Fits.{add-fits}
use lib.Ieee.Bits.{of_bits-to_bits}
use Rattle.packing.specs.Parts.{Splits}
use Rattle.ieee.specs.Fused.{fma, convert}
use Rattle.ieee.specs.Parts.{RoundsOnce}
use Rattle.ieee.proofs.Product.{fma_parts}
use Rattle.ieee.proofs.Doubled.{Split, wide_is, converted, fma_narrow}

-- `narrow`: the pattern rounded where it rounds once, and the significand packed
pub narrow_paths : (x : Float) → T (fits binary64 x)
    → (r : Float) → RoundsOnce (to_bits binary64 x) → r ≡ convert binary32 (of_bits binary64 (to_bits binary64 x))  -- `rounds_once`, `narrow_once`
    → (t : Float) (s : Bool) (m e : ℕ) → Splits 1074 53 2045 x s m e → t ≡ round binary32 s (m * 2 ^ e) (2 ^ 1074)  -- `unpack64`, `pack`
    → r ≡ t
narrow_paths x h r k short t s m e p general = short ∙ ap (convert binary32) (of_bits-to_bits binary64 x h) ∙ converted x s (m * 2 ^ e) 1074 p.value ∙ sym general

-- `mul_add`: the sum in binary64 rounded once more where that is harmless, and the exact sum of the whole significands
module _ (a b c : Float) (s t u : Bool) (m n p i j k : ℕ) (A : Splits 149 24 253 a s m i) (B : Splits 149 24 253 b t n j) (C : Splits 149 24 253 c u p k) where
  A' : Split a
  A' = record { s = s; m = m; x = i; parts = A }

  B' : Split b
  B' = record { s = t; m = n; x = j; parts = B }

  C' : Split c
  C' = record { s = u; m = p; x = k; parts = C }

  held : T (fits binary64 (fma binary64 a b c))
  held = subst (λ (v : Float). T (fits binary64 v)) (wide_is a b c A' B' C') (add-fits binary64 (mul binary64 a b) c)

  pub fma_paths : (w r : Float) → w ≡ fma binary64 a b c → RoundsOnce (to_bits binary64 w) → r ≡ convert binary32 (of_bits binary64 (to_bits binary64 w))  -- `wide_fma`, `rounds_once`, `narrow_once`
      → (v : Float) → v ≡ sum binary32 (unlike s t) (m * n * 2 ^ (i + j)) u (p * 2 ^ (k + 149)) (2 ^ 298)  -- `unpack` of each, `add_scaled`
      → r ≡ v
  fma_paths w r e q short v general =
      let back : of_bits binary64 (to_bits binary64 w) ≡ fma binary64 a b c = of_bits-to_bits binary64 w (subst (λ (y : Float). T (fits binary64 y)) (sym e) held) ∙ e in
      short ∙ fma_narrow (to_bits binary64 w) q a b c A' B' C' back ∙ fma_parts binary32 a b c s t u m n p i j k 149 A.value B.value C.value ∙ sym general
