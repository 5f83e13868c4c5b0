-- `to_i32` meets its contract: a cast goes toward zero by itself. Assumes nothing.
use mathlib.Core.Path.{sym, ◌∙◌, subst}
use mir.Syntax.{w32}
use mir.ValLaws.{to_z-of_z}
use lib.Dec.{T}
use Rattle.ieee_whole.proofs.Casts.{cast_cuts}
use Rattle.ieee_whole.proofs.to_i32.Goals as goal

pub returns : goal.returns
returns c = to_z-of_z w32 c.whole_to_i32.result (record { sfits = c.whole_to_i32.type_inv }) ∙ c.whole_to_i32.ensures ∙ cast_cuts 31 c.args.x (subst T (sym c.well_formed.0.1) tt)
