use Rattle.bounds.specs.Bounds.{clamp_of}
use Rattle.bounds.proofs.clamp.Goals as goal

pub returns-then-x-lo : goal.returns-then-x-lo
unfolding clamp_of
returns-then-x-lo c = simp c.if-x-lo.true

pub returns-then-hi-x : goal.returns-then-hi-x
unfolding clamp_of
returns-then-hi-x c = simp (c.if-x-lo.false, c.if-hi-x.true)

pub returns-else-hi-x : goal.returns-else-hi-x
unfolding clamp_of
returns-else-hi-x c = simp (c.if-x-lo.false, c.if-hi-x.false)
