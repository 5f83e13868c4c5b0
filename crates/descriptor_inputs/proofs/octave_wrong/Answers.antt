use mir.Syntax.{w32}
use mir.ValLaws.{to_z-of_z}
use Rattle.descriptor_inputs.proofs.Checks.{octave_test_lem}
use Rattle.descriptor_inputs.proofs.octave_wrong.Goals as goal

pub returns : goal.returns
returns c = rw (to_z-of_z w32 c.args.octave c.ranges.octave) (octave_test_lem c.args.octave)
