use Rattle.std.proofs.lemmas.Result.{err_from_is_err_and}
use Rattle.thin.proofs.Keeps.{frame_refused, frame_kept}
use Rattle.thin.proofs.thin_frame.Goals as goal

pub returns-in_err-fault-clause-value : goal.returns-in_err-fault-clause-value
returns-in_err-fault-clause-value c =
    let p = err_from_is_err_and c.from_residual.result c.from_residual.ensures.1 in
    rw (p.1, p.2) (frame_refused _ _ _ _ _ _ c.args.out.now c.in_err-fault.ensures.value).0

pub returns-in_err-fault-clause-out_after : goal.returns-in_err-fault-clause-out_after
returns-in_err-fault-clause-out_after c = (frame_refused _ _ _ _ _ _ c.args.out.now c.in_err-fault.ensures.value).1

pub returns-clause-value : goal.returns-clause-value
returns-clause-value c = (frame_kept _ _ _ _ _ _ _ _ _ c.in_ok-fault.ensures.value c.frame_of.ensures c.keep.ensures).0

pub returns-clause-out_after : goal.returns-clause-out_after
returns-clause-out_after c = (frame_kept _ _ _ _ _ _ _ _ _ c.in_ok-fault.ensures.value c.frame_of.ensures c.keep.ensures).1
