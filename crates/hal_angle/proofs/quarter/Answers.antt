use Rattle.hal_angle.proofs.AngleTable.{quarter_at}
use Rattle.hal_angle.proofs.quarter.Goals as goal

pub returns-clause-middle : goal.returns-clause-middle
returns-clause-middle c = rw (c.from.ensures, c.from-2.ensures) (quarter_at c.args.left c.args.down _).0

pub returns-clause-steps : goal.returns-clause-steps
returns-clause-steps c = rw (c.from.ensures, c.from-2.ensures) (quarter_at c.args.left c.args.down _).1

pub returns-clause-least : goal.returns-clause-least
returns-clause-least c = rw (c.from.ensures, c.from-2.ensures) (quarter_at c.args.left c.args.down _).2

pub returns-clause-largest : goal.returns-clause-largest
returns-clause-largest c = rw (c.from.ensures, c.from-2.ensures) (quarter_at c.args.left c.args.down _).3
