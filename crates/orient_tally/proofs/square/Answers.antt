use Rattle.orient_tally.proofs.Squares.{sub_fits, mul_fits, squared}
use Rattle.orient_tally.proofs.square.Goals as goal

pub overflow_sub-d : goal.overflow_sub-d
overflow_sub-d c = sub_fits _ _ c.requires.0 c.requires.1

pub overflow_mul-result : goal.overflow_mul-result
overflow_mul-result c = mul_fits _ _ c.requires.0 c.requires.1

pub returns : goal.returns
returns c = squared _ _ c.requires.0 c.requires.1
