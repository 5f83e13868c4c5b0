use mathlib.Core.Path.{◌≡◌}
use mathlib.Core.List.{flat_map}
use Prim.Native.Nat.{◌+◌, ◌-◌, ◌*◌}
use lib.ListN.{length, drop}
use Rattle.lists.specs.Pasted.{pasted}
use Rattle.sheet.specs.Layout.{header_size, record_size}
use Rattle.sheet.specs.Sheet.{parts}
use Rattle.sheet.specs.Words.{taken_words}
use Rattle.sheet_edition.specs.Edition.{layout_for}
use Rattle.sheet_fields.specs.Fields.{words_bytes}
use Rattle.sheet_write.proofs.put_records.Given as goal

abbrev pub invariant-loop-i : goal.invariant-loop-i
invariant-loop-i l =
    (length l.out ≡ length l.initial.out)
    × (pasted (header_size + record_size (layout_for l.e) * l.i) (flat_map (words_bytes (layout_for l.e)) (parts (taken_words (layout_for l.e)) (l.n - l.i) (drop (taken_words (layout_for l.e) * l.i) l.words))) l.out
    ≡ pasted header_size (flat_map (words_bytes (layout_for l.e)) (parts (taken_words (layout_for l.e)) l.n l.words)) l.initial.out)
