use mathlib.Core.Path.{sym, ◌∙◌, ap}
use Rattle.params.specs.Answers.{number_of, count_of}
use Rattle.params.proofs.Told.{number_told}
use Rattle.bargeclover.proofs.bargeclover_find_extrema.Goals as goal

pub returns-clause-value : goal.returns-clause-value
returns-clause-value c =
    let found = c.find_extrema-a.ensures in
    c.number_of.ensures ∙ sym (number_told c.find_extrema-a.result) ∙ ap number_of found.value

pub returns-clause-count_after : goal.returns-clause-count_after
returns-clause-count_after c =
    let found = c.find_extrema-a.ensures in
    c.count_of.ensures ∙ ap count_of found.value

pub returns-clause-out_after : goal.returns-clause-out_after
returns-clause-out_after c =
    let found = c.find_extrema-a.ensures in
    found.out_after
