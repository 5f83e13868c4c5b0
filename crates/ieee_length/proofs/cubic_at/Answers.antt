-- `cubic_at` meets its contract: of small numbers every step is small. Assumes nothing.
use lib.Ieee.{nan}
use Rattle.ieee_length.proofs.Small.{cubic_finite}
use Rattle.ieee_length.proofs.cubic_at.Goals as goal

pub returns : goal.returns
returns c = cubic_finite c.args.cubics.now c.args.i c.args.a nan c.requires.fact_1 c.requires.fact_2.0 c.requires.fact_2.1
