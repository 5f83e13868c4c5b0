use Rattle.std.proofs.Common.{◌≡◌, ◌+◌, map, length, drop}
use Rattle.lists.specs.Pasted.{pasted}
use Rattle.sheet.specs.Words.{front_words}
use Rattle.record.specs.Record.{byte_of}
use Rattle.record.proofs.put_values.Given as goal

abbrev pub invariant-loop-i : goal.invariant-loop-i
invariant-loop-i l =
    (length l.out ≡ length l.initial.out) × (pasted (front_words + l.i) (map byte_of (drop l.i l.values)) l.out ≡ pasted front_words (map byte_of l.values) l.initial.out)
