use Prim.Native.Nat.{◌+◌, ◌-◌}
use mathlib.Core.Path.{◌≡◌, ◌∙◌}
use native.Mathlib.Omega.{arith}
use Rattle.lists.proofs.Every.{every_to}
use Rattle.samples.specs.Area.{area_good}
use Rattle.samples.proofs.Strips.{strip_none, strip_more}
use Rattle.samples.proofs.area_good.Goals as goal

pub loop-r-init : goal.loop-r-init
loop-r-init c = (omega arith, strip_none _ _)

pub loop-r-preserved : goal.loop-r-preserved
loop-r-preserved c = let l = c.loop-r in (omega arith, strip_more _ _ _ _ _ l.r l.ok _ l.auto.r l.invariant.1 c.block_good-ok.ensures)

pub returns : goal.returns
unfolding area_good
returns c =
    let l = c.loop-r in
    let a = c.args.a in
    let z : l.r - (a.top - 1) ≡ a.bottom + 2 - a.top = omega arith in
    l.invariant.1 ∙ every_to _ z
