-- The cell of a position: the whole number of the code, held to 0, is that of the definition. Assumes nothing.
use Prim.Native.Nat.{zero, suc}
use mathlib.Core.Path.{◌≡◌, refl, ap, ◌∙◌}
use native.Mathlib.Omega.{arith}
use borrow.Author.Tests.{lt-ltb}
use lib.IntN.{ℤ, pos, negsuc, nat_abs}
use mir.Syntax.{w32}
use mir.Val.{SFits, to_z, of_z}
use mir.ValLaws.{to_z-of_z}
use Rattle.std.specs.Int.{int_max}
use Rattle.descriptor_words.specs.Words.{cell_at}

cell_max : (z : ℤ) → nat_abs (int_max z (pos 0)) ≡ cell_at z
cell_max (pos zero) = refl
cell_max (pos (suc n)) = rw (lt-ltb 0 (suc n) (omega arith))
cell_max (negsuc n) = refl

-- what was passed on, read back from its bits
pub cell_told : (z z' m : ℤ) → SFits w32 z → SFits w32 m → z ≡ z' → m ≡ int_max (to_z w32 (of_z w32 z)) (pos 0) → nat_abs (to_z w32 (of_z w32 m)) ≡ cell_at z'
cell_told z z' m f g e h =
    ap nat_abs (to_z-of_z w32 m g ∙ h ∙ ap (λ (y : ℤ). int_max y (pos 0)) (to_z-of_z w32 z f ∙ e)) ∙ cell_max z'
