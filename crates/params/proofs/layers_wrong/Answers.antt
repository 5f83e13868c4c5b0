use borrow.Author.Tests.{lt-ltb, le-ltb}
use Rattle.params.specs.Table.{layers_wrong}
use Rattle.lists.proofs.Bools.{or_true}
use Rattle.params.proofs.layers_wrong.Goals as goal

pub returns-then-layers-gt-MAX_LAYERS : goal.returns-then-layers-gt-MAX_LAYERS
unfolding layers_wrong
returns-then-layers-gt-MAX_LAYERS c = rw (lt-ltb _ _ c.if-layers-gt-MAX_LAYERS.true, or_true)

pub returns : goal.returns
unfolding layers_wrong
returns c = rw (le-ltb _ _ c.if-layers-gt-MAX_LAYERS.false)
