-- The short path and the general path of `sqrt` agree, as those of `mul_add` and `narrow` do: which one a call takes is a matter of time alone. Each premise is a contract
-- of the code, as its comment names it. Assumes nothing.
use mathlib.Core.Path.{◌≡◌, sym, ap, ◌∙◌}
use Prim.Native.Nat.{ℕ}
use lib.Dec.{T}
use lib.Ieee.{Float, binary32, fits, to_bits, of_bits}
use lib.Ieee.Bits.{of_bits-to_bits}
use Rattle.ieee.specs.Root.{sqrt}
use Rattle.ieee_root.specs.Parts.{RootBits}

-- the guess that the exact test took, and the integer root of the whole significand
pub root_paths : (x : Float) → T (fits binary32 x)
    → (q : ℕ) → RootBits (of_bits binary32 (to_bits binary32 x)) q  -- `checked_root`
    → (t : Float) → t ≡ sqrt binary32 x  -- `root_general`
    → of_bits binary32 q ≡ t
root_paths x h q tried t general = tried.right ∙ ap (sqrt binary32) (of_bits-to_bits binary32 x h) ∙ sym general
