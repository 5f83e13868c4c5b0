use mathlib.Core.Path.{sym, ◌∙◌}
use mir.Syntax.{w32}
use mir.ValLaws.{to_z-of_z}
use Rattle.descriptor_inputs.specs.Inputs.{given_of}
use Rattle.descriptor_inputs.proofs.Checks.{octave_told, octave_is, refused_octave, refused_keypoint, accepted}
use Rattle.descriptor_inputs.proofs.descriptor_inputs.Goals as goal

pub returns-then-octave_wrong : goal.returns-then-octave_wrong
returns-then-octave_wrong c = refused_octave _ _ (octave_told _ _ _ c.ranges.octave c.octave_wrong.ensures c.if-octave_wrong.true)

pub returns-then-oriented_wrong : goal.returns-then-oriented_wrong
returns-then-oriented_wrong c = refused_keypoint _ _ (octave_told _ _ _ c.ranges.octave c.octave_wrong.ensures c.if-octave_wrong.false) (sym c.oriented_wrong.ensures ∙ c.if-oriented_wrong.true)

pub returns : goal.returns
unfolding given_of
returns c =
    let z = c.args.octave in
    let e = octave_told _ _ z c.ranges.octave c.octave_wrong.ensures c.if-octave_wrong.false in
    let f = sym c.oriented_wrong.ensures ∙ c.if-oriented_wrong.false in
    rw (c.reversed.ensures, rw (to_z-of_z w32 z c.ranges.octave, octave_is z e) at c.shrink-by.ensures) (accepted c.args.o z e f)
