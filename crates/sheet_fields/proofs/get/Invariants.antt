use mathlib.Core.Path.{◌≡◌}
use Prim.Native.Nat.{◌*◌, ◌^◌, ◌<◌}
use lib.ListN.{take, drop}
use Rattle.sheet.specs.Pack.{value}
use Rattle.sheet_fields.proofs.get.Given as goal

abbrev pub invariant-loop-b : goal.invariant-loop-b
invariant-loop-b l = (l.acc ≡ value (take l.b-index (drop l.at l.bytes))) × (l.acc < 2 ^ (8 * l.b-index))
