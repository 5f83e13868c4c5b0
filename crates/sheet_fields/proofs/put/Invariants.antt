use mathlib.Core.Path.{◌≡◌}
use lib.ListN.{length}
use Rattle.lists.specs.Pasted.{pasted}
use Rattle.sheet.specs.Pack.{bytes}
use Rattle.sheet_fields.proofs.put.Given as goal

abbrev pub invariant-loop-i : goal.invariant-loop-i
invariant-loop-i l = (length l.out ≡ length l.initial.out) × (pasted l.at (bytes l.i l.m) l.out ≡ pasted l.at (bytes l.k l.n) l.initial.out)
