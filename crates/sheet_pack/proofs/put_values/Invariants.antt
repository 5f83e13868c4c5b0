use mathlib.Core.Path.{◌≡◌}
use Prim.Native.Nat.{◌+◌}
use lib.ListN.{length, drop}
use Rattle.lists.specs.Pasted.{pasted}
use Rattle.sheet_pack.proofs.put_values.Given as goal

abbrev pub invariant-loop-i : goal.invariant-loop-i
invariant-loop-i l = (length l.out ≡ length l.initial.out) × (pasted (l.at + l.i) (drop l.i l.value-items) l.out ≡ pasted l.at l.value-items l.initial.out)
