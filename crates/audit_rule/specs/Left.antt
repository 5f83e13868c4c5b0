-- Inner: the answer behind the checks of the form; no part of a public contract. Definitions only.
use Rattle.std.specs.Prelude.{ℕ, List, Float}
use Rattle.params.specs.declared.Settings.{Settings}
use Rattle.picture.specs.declared.Shape.{Shape}
use Rattle.picture.specs.declared.Size.{Size}
use Rattle.sheet.specs.Writes.{frame_of}
use Rattle.sheet.specs.Reads.{layout_in}
use Rattle.road.specs.Road.{octave_records}
use Rattle.audit_rule.specs.Entry.{octave_of, planes_fault, sheet_fault, unless}
use Rattle.audit_verdict.specs.Verdict.{Checked, sheet_verdict}

-- where the form is not refused
unfoldable pub answer_left : List Float → List Float → Shape → ℕ → Settings → Size → List ℕ → Checked
answer_left dog gauss t octave s base bs =
    unless (planes_fault s (octave_of dog gauss t octave))
    (unless (sheet_fault octave bs)
    (sheet_verdict (layout_in bs) (frame_of base.width base.height s.layers) (octave_records s (octave_of dog gauss t octave)) bs))
