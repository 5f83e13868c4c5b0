use mathlib.Core.Path.{sym, ap, ◌∙◌}
use Rattle.sheet.specs.Layout.{Layout}
use Rattle.sheet.specs.Sheet.{bytes_right}
use Rattle.sheet.specs.Reads.{layout_in}
use Rattle.sheet_read.proofs.Taken.{short_is}
use Rattle.sheet_read.proofs.sheet_sound.Goals as goal

pub returns-then-sheet-lt-HEADER_BYTES : goal.returns-then-sheet-lt-HEADER_BYTES
returns-then-sheet-lt-HEADER_BYTES c =
    let bs = c.args.sheet.now in
    sym (short_is (layout_in bs) bs c.if-sheet-lt-HEADER_BYTES.true)

pub returns : goal.returns
returns c =
    let bs = c.args.sheet.now in
    let e = c.edition_in in
    c.sheet_right.ensures ∙ ap (λ (l : Layout). bytes_right l bs) e.ensures
