use native.Mathlib.Omega.{arith}
use Rattle.thin_source.proofs.Cutting.{halving_start, halving_found, halving_up, halving_down, halving_end}
use Rattle.thin_source.proofs.halve.Goals as goal

pub loop-lo-init : goal.loop-lo-init
loop-lo-init c = (omega arith, halving_start _ _ _ _ c.requires.covers.1 c.requires.le_q.0 c.requires.le_q.1)

pub returns-then-m-q : goal.returns-then-m-q
returns-then-m-q c = halving_found _ _ _ _ _ _ _ c.requires.covers.0 c.tally-m.ensures c.if-m-q.true

pub loop-lo-preserved-then-m-q-2 : goal.loop-lo-preserved-then-m-q-2
loop-lo-preserved-then-m-q-2 c = (omega arith, halving_up _ _ _ _ _ _ _ _ _ c.requires.covers.0 c.tally-m.ensures (omega arith) c.loop-lo.invariant.1)

pub loop-lo-preserved : goal.loop-lo-preserved
loop-lo-preserved c = (omega arith, halving_down _ _ _ _ _ _ _ _ _ c.requires.covers.0 c.tally-m.ensures (omega arith) (omega arith) c.loop-lo.invariant.1)

pub returns : goal.returns
returns c = halving_end _ _ _ _ _ c.requires.ordered.1 (omega arith) c.loop-lo.invariant.1
