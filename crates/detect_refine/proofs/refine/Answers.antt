use mathlib.Core.Path.{sym, ◌∙◌}
use native.Mathlib.Omega.{arith}
use Rattle.detect_refine.proofs.Steps.{step_go}
use Rattle.detect_refine.proofs.Settled.{settle_go}
use Rattle.detect_refine.proofs.refine.Goals as goal

pub loop-moves-preserved : goal.loop-moves-preserved
loop-moves-preserved c =
    let e = c.in-Go.is in
    let is = c.step_of.ensures in (
      step_go _ _ _ _ _ (sym is ∙ e),
      sym (settle_go _ _ _ _ _ (omega arith) _ _ is c.patch_at-patch.ensures _ e) ∙ c.loop-moves.invariant.1,
    )
