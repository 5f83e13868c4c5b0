use mathlib.Core.Path.{◌∙◌, ap}
use mir.Syntax.{w32}
use mir.ValLaws.{to_z-of_z}
use Rattle.ieee.specs.F32.{to_i32}
use Rattle.bargeclover.proofs.bargeclover_to_i32.Goals as goal

pub returns : goal.returns
returns c = to_z-of_z w32 c.to_i32.result (record { sfits = c.to_i32.type_inv }) ∙ c.to_i32.ensures ∙ ap to_i32 c.of_bits.ensures
