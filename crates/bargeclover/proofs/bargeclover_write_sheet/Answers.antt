use mathlib.Core.Path.{sym, ◌∙◌, ap}
use Rattle.params.specs.Answers.{number_of, count_of}
use Rattle.params.proofs.Told.{number_told}
use Rattle.bargeclover.proofs.bargeclover_write_sheet.Goals as goal

pub returns-clause-value : goal.returns-clause-value
returns-clause-value c =
    let written = c.write_sheet-a.ensures in
    c.number_of.ensures ∙ sym (number_told c.write_sheet-a.result) ∙ ap number_of written.0

pub returns-clause-count_after : goal.returns-clause-count_after
returns-clause-count_after c =
    let written = c.write_sheet-a.ensures in
    c.count_of.ensures ∙ ap count_of written.0

pub returns-clause-out_after : goal.returns-clause-out_after
returns-clause-out_after c =
    let written = c.write_sheet-a.ensures in
    written.1
