-- A cell of a side, as the code passes it on. Assumes nothing.
use Prim.Native.Nat.{ℕ, ◌<◌}
use mathlib.Core.Path.{◌≡◌, ap, ◌∙◌}
use mathlib.Core.Bool.{Bool, true, false≢true}
use borrow.Author.Tests.{ltb-true}
use lib.IntN.{ℤ, pos, negsuc}
use mir.Syntax.{w32}
use mir.Val.{SFits, to_z, of_z}
use mir.ValLaws.{to_z-of_z}
use Rattle.descriptor_words.specs.Words.{cell_at}
use Rattle.descriptor.specs.Place.{on_side}

-- what was passed on, read back from its bits
pub side_told : (n : ℕ) (z z' : ℤ) (b : Bool) → SFits w32 z → z ≡ z' → b ≡ on_side n (to_z w32 (of_z w32 z)) → b ≡ on_side n z'
side_told n z z' b f e h = h ∙ ap (on_side n) (to_z-of_z w32 z f ∙ e)

-- a cell of a side lies on it
pub side_cell : (n : ℕ) (z : ℤ) → on_side n z ≡ true → cell_at z < n
side_cell n (pos u) e = ltb-true u n e
side_cell n (negsuc u) e = absurd (false≢true e)
