use Rattle.std.proofs.Common.{sym}
use Rattle.std.proofs.lemmas.Result.{err_from_is_err_and}
use Rattle.orient.proofs.Answers.{answer_refused, out_refused, few, answer_given, out_given}
use Rattle.orient.proofs.assign_orientations.Goals as goal

pub returns-in_err-fault-clause-value : goal.returns-in_err-fault-clause-value
returns-in_err-fault-clause-value c =
    let p = err_from_is_err_and c.from_residual.result c.from_residual.ensures.1 in
    rw (p.1, p.2) (answer_refused c.args.img.now c.args.s c.args.k _ _ c.in_err-fault.ensures.value)

pub returns-in_err-fault-clause-out_after : goal.returns-in_err-fault-clause-out_after
returns-in_err-fault-clause-out_after c = out_refused c.args.img.now c.args.s c.args.k _ c.args.out.now c.in_err-fault.ensures.value

pub give-requires : goal.give-requires
give-requires c = few c.args.img.now c.args.s c.args.k _ c.angles_about.ensures

pub returns-clause-value : goal.returns-clause-value
returns-clause-value c = answer_given c.args.img.now c.args.s c.args.k _ c.angles_about.ensures (sym c.in_ok-fault.ensures.value) _ _ c.give.ensures.value

pub returns-clause-out_after : goal.returns-clause-out_after
returns-clause-out_after c = out_given c.args.img.now c.args.s c.args.k _ c.angles_about.ensures (sym c.in_ok-fault.ensures.value) c.args.out.now _ c.give.ensures.out_after
