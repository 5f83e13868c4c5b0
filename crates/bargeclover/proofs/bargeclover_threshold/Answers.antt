use mathlib.Core.Path.{◌∙◌, ap}
use Rattle.ieee.specs.F32.{bits_of}
use Rattle.detect_threshold.specs.Threshold.{threshold_number, threshold_value}
use Rattle.bargeclover.proofs.bargeclover_threshold.Goals as goal

pub returns-clause-value : goal.returns-clause-value
returns-clause-value c =
    let answer = c.extrema_threshold-t.ensures in
    c.threshold_number.ensures ∙ ap threshold_number answer

pub returns-clause-threshold_bits_after : goal.returns-clause-threshold_bits_after
returns-clause-threshold_bits_after c =
    let answer = c.extrema_threshold-t.ensures in
    c.bits_of.ensures ∙ ap bits_of (c.threshold_value.ensures ∙ ap threshold_value answer)
