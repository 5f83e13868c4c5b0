-- `floor_to_i32` meets its contract: it is one of the ways to a whole number. Assumes nothing.
use mathlib.Core.Path.{ap, ◌∙◌}
use mir.Syntax.{w32}
use mir.ValLaws.{to_z-of_z}
use lib.Ieee.{to_signed}
use Rattle.ieee_whole.proofs.Wholes.{floor_whole}
use Rattle.ieee_whole.proofs.floor_to_i32.Goals as goal

pub returns : goal.returns
returns c = to_z-of_z w32 c.whole_to_i32.result (record { sfits = c.whole_to_i32.type_inv }) ∙ c.whole_to_i32.ensures ∙ ap (to_signed 31) (floor_whole c.args.x)
