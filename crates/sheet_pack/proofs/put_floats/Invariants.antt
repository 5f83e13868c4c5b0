use mathlib.Core.Path.{◌≡◌}
use mathlib.Core.List.{flat_map}
use Prim.Native.Nat.{◌+◌, ◌*◌}
use lib.ListN.{length, drop}
use Rattle.lists.specs.Pasted.{pasted}
use Rattle.sheet.specs.Pack.{bytes}
use Rattle.sheet_pack.proofs.put_floats.Given as goal

abbrev pub invariant-loop-i : goal.invariant-loop-i
invariant-loop-i l =
    (length l.out ≡ length l.initial.out)
    × (pasted (l.at + 4 * l.i) (flat_map (bytes 4) (drop l.i l.float-items)) l.out ≡ pasted l.at (flat_map (bytes 4) l.float-items) l.initial.out)
