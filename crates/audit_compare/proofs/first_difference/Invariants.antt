use mathlib.Core.Path.{◌≡◌}
use Prim.Native.Nat.{◌+◌, ◌-◌, ◌≤◌}
use lib.ListN.{drop}
use Rattle.sheet.proofs.Words.{field_count}
use Rattle.sheet_edition.specs.Edition.{layout_for}
use Rattle.audit_compare.specs.Difference.{differs_from, first_difference, fields_of}
use Rattle.audit_compare.proofs.first_difference.Given as goal

abbrev pub invariant-loop-i : goal.invariant-loop-i
invariant-loop-i l =
    (l.i ≤ field_count)
    × (differs_from (l.i + 1) (drop l.i (fields_of (layout_for l.e) l.one)) (drop l.i (fields_of (layout_for l.e) l.other)) ≡ first_difference (fields_of (layout_for l.e) l.one) (fields_of (layout_for l.e) l.other))

abbrev pub decreases-loop-i : goal.decreases-loop-i
decreases-loop-i l = field_count - l.i
