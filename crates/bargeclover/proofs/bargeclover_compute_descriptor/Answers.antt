use mathlib.Core.Path.{◌∙◌, ap}
use Rattle.descriptor.specs.Entry.{number_of, count_of, used_of}
use Rattle.bargeclover.proofs.bargeclover_compute_descriptor.Goals as goal

pub returns-clause-value : goal.returns-clause-value
returns-clause-value c =
    let d = c.compute_descriptor-a.ensures in
    c.number_of.ensures ∙ ap number_of d.value

pub returns-clause-count_after : goal.returns-clause-count_after
returns-clause-count_after c =
    let d = c.compute_descriptor-a.ensures in
    c.count_of.ensures ∙ ap count_of d.value

pub returns-clause-samples_after : goal.returns-clause-samples_after
returns-clause-samples_after c =
    let d = c.compute_descriptor-a.ensures in
    c.used_of.ensures ∙ ap used_of d.value

pub returns-clause-out_after : goal.returns-clause-out_after
returns-clause-out_after c =
    let d = c.compute_descriptor-a.ensures in
    d.out_after
