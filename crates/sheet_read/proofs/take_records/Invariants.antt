use mathlib.Core.Path.{◌≡◌}
use mathlib.Core.List.{flat_map}
use Prim.Native.Nat.{◌+◌, ◌-◌, ◌*◌}
use lib.ListN.{length, drop}
use Rattle.lists.specs.Pasted.{pasted}
use Rattle.sheet.specs.Layout.{header_size, record_size}
use Rattle.sheet.specs.Sheet.{parts}
use Rattle.sheet.specs.Words.{read_words}
use Rattle.sheet_edition.specs.Edition.{layout_for}
use Rattle.sheet_fields.specs.Fields.{bytes_words}
use Rattle.sheet_read.proofs.take_records.Given as goal

abbrev pub invariant-loop-i : goal.invariant-loop-i
invariant-loop-i l =
    (length l.out ≡ length l.initial.out)
    × (pasted (0 + read_words * l.i) (flat_map (bytes_words (layout_for l.e)) (parts (record_size (layout_for l.e)) (l.n - l.i) (drop (record_size (layout_for l.e) * l.i) (drop header_size l.sheet)))) l.out
    ≡ pasted 0 (flat_map (bytes_words (layout_for l.e)) (parts (record_size (layout_for l.e)) l.n (drop header_size l.sheet))) l.initial.out)
