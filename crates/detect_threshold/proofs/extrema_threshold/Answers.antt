use Rattle.std.proofs.Common.{sym, ◌∙◌}
use Rattle.params.specs.Table.{first_fault}
use Rattle.detect_threshold.specs.Threshold.{threshold_fault, threshold_answer}
use Rattle.params.proofs.Bools.{in_range}
use Rattle.detect_threshold.proofs.extrema_threshold.Goals as goal

pub returns-then-layers : goal.returns-then-layers
unfolding threshold_answer threshold_fault first_fault
returns-then-layers c = rw c.if-layers.true

pub returns-then-contrast_wrong : goal.returns-then-contrast_wrong
unfolding threshold_answer threshold_fault first_fault
returns-then-contrast_wrong c = rw (c.if-layers.false, ← c.contrast_wrong.ensures, c.if-contrast_wrong.true)

pub threshold_of-requires : goal.threshold_of-requires
threshold_of-requires c =
    let n = in_range _ _ c.if-layers.false in
    (sym c.contrast_wrong.ensures ∙ c.if-contrast_wrong.false, n.0, n.1)

pub returns : goal.returns
unfolding threshold_answer threshold_fault first_fault
returns c =
    rw (c.if-layers.false, ← c.contrast_wrong.ensures, c.if-contrast_wrong.false, c.threshold_of.ensures)
