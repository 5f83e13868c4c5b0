use Rattle.orient_tally.specs.Sample.{weight_at, square_at}
use Rattle.orient_tally.proofs.Squares.{sum_fits, sum_held, summed}
use Rattle.orient_tally.proofs.weight_at.Goals as goal

pub overflow_add-sum : goal.overflow_add-sum
overflow_add-sum c = sum_fits _ _ c.requires.near.rows c.requires.near.cols _ _ c.square.ensures c.square-2.ensures

pub int_to_float-sum : goal.int_to_float-sum
int_to_float-sum c = sum_held _ _ c.requires.near.rows c.requires.near.cols _ _ c.square.ensures c.square-2.ensures

pub exp_in-requires : goal.exp_in-requires
unfolding square_at
exp_in-requires c = rw (summed _ _ c.requires.near.rows c.requires.near.cols _ _ c.square.ensures c.square-2.ensures) c.requires.down

pub returns : goal.returns
unfolding weight_at square_at
returns c = rw (← summed _ _ c.requires.near.rows c.requires.near.cols _ _ c.square.ensures c.square-2.ensures) c.exp_in.ensures
