use mathlib.Core.Path.{◌∙◌}
use Rattle.detect_words.proofs.Leaves.{leaves_none, leaves_one}
use Rattle.detect_words.proofs.leave.Goals as goal

pub returns-in_default-clause-value : goal.returns-in_default-clause-value
returns-in_default-clause-value c = rw (c.in_default.is, leaves_none)

pub returns-in_default-clause-out_after : goal.returns-in_default-clause-out_after
returns-in_default-clause-out_after c = rw (c.in_default.is, leaves_none)

pub returns-in-KeypointWords-clause-value : goal.returns-in-KeypointWords-clause-value
returns-in-KeypointWords-clause-value c = let a = c.args in rw (c.in-KeypointWords.is, c.in-Some.is, leaves_one a.r a.c)

pub returns-in-KeypointWords-clause-out_after : goal.returns-in-KeypointWords-clause-out_after
returns-in-KeypointWords-clause-out_after c =
    let a = c.args in
    c.put.ensures ∙ rw (c.in-KeypointWords.is, c.in-Some.is, leaves_one a.r a.c)
