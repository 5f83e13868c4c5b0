use mathlib.Core.Path.{◌∙◌, ap}
use lib.ListN.{length}
use Rattle.descriptor_inputs.specs.Inputs.{Inputs, inputs_told}
use Rattle.words.specs.Inputs.{inputs_number, inputs_left}
use Rattle.bargeclover.proofs.Inputs.{told}
use Rattle.bargeclover.proofs.bargeclover_descriptor_inputs.Goals as goal

pub returns-clause-value : goal.returns-clause-value
returns-clause-value c =
    let d = c.descriptor_inputs-inputs in
    let g = c.give_inputs.ensures in
    let e = told (inputs_told d.result) _ _ c.args.octave c.ranges.octave c.oriented_in.ensures d.ensures in
    c.number_of.ensures ∙ g.value.0 ∙ ap (λ (i : Inputs). inputs_number i (length c.args.out.now)) e

pub returns-clause-out_after : goal.returns-clause-out_after
returns-clause-out_after c =
    let d = c.descriptor_inputs-inputs in
    let g = c.give_inputs.ensures in
    let e = told (inputs_told d.result) _ _ c.args.octave c.ranges.octave c.oriented_in.ensures d.ensures in
    g.value.1 ∙ ap (λ (i : Inputs). inputs_left i c.args.out.now) e
