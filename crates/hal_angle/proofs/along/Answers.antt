use native.Mathlib.Omega.{arith}
use lib.Ieee.{of_bits}
use Rattle.hal_angle.specs.Angle.{along_of}
use Rattle.hal_angle.proofs.AngleTable.{line_is}
use Rattle.hal_angle.proofs.along.Goals as goal

pub returns : goal.returns
unfolding along_of of_bits
returns c = line_is c.args.middle _ _ (omega arith)
