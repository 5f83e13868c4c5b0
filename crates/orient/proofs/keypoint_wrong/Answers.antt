use Rattle.std.proofs.Common.{sym}
use Rattle.orient.proofs.Checks.{octave_right_lem}
use Rattle.orient.proofs.keypoint_wrong.Goals as goal

pub scale_wrong-requires : goal.scale_wrong-requires
scale_wrong-requires c = octave_right_lem _ (sym c.if-octave_wrong.ensures)
