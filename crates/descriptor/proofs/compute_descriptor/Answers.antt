use mathlib.Core.Path.{sym}
use Rattle.std.proofs.lemmas.Result.{err_from_is_err_and}
use Rattle.descriptor.proofs.Answers.{answer_refused, out_refused, room_refused, answer_short, out_short, answer_done, out_done}
use Rattle.descriptor.proofs.compute_descriptor.Goals as goal

pub returns-in_err-fault-clause-value : goal.returns-in_err-fault-clause-value
returns-in_err-fault-clause-value c =
    let a = c.args in
    let p = err_from_is_err_and c.from_residual.result c.from_residual.ensures.1 in
    rw (p.1, p.2) (answer_refused a.img.now a.s a.p _ _ c.in_err-fault.ensures.value)

pub returns-in_err-fault-clause-room : goal.returns-in_err-fault-clause-room
returns-in_err-fault-clause-room c =
    let a = c.args in
    let p = err_from_is_err_and c.from_residual.result c.from_residual.ensures.1 in
    room_refused a.img.now a.s a.p _ c.in_err-fault.ensures.value p.1 p.2

pub returns-in_err-fault-clause-out_after : goal.returns-in_err-fault-clause-out_after
returns-in_err-fault-clause-out_after c =
    let a = c.args in
    out_refused a.img.now a.s a.p _ a.out.now c.in_err-fault.ensures.value

pub returns-then-out-ne-VALUES-clause-value : goal.returns-then-out-ne-VALUES-clause-value
returns-then-out-ne-VALUES-clause-value c =
    let a = c.args in
    answer_short a.img.now a.s a.p (sym c.in_ok-fault.ensures.value) _ c.if-out-ne-VALUES.true

pub returns-then-out-ne-VALUES-clause-out_after : goal.returns-then-out-ne-VALUES-clause-out_after
returns-then-out-ne-VALUES-clause-out_after c =
    let a = c.args in
    out_short a.img.now a.s a.p (sym c.in_ok-fault.ensures.value) a.out.now c.if-out-ne-VALUES.true

pub returns-clause-value : goal.returns-clause-value
returns-clause-value c =
    let a = c.args in
    answer_done a.img.now a.s a.p (sym c.in_ok-fault.ensures.value) _ _ c.fill.ensures.value c.if-out-ne-VALUES.false

pub returns-clause-out_after : goal.returns-clause-out_after
returns-clause-out_after c =
    let a = c.args in
    let f = c.fill.ensures in
    out_done a.img.now a.s a.p (sym c.in_ok-fault.ensures.value) _ a.out.now _ f.value c.if-out-ne-VALUES.false f.out_after
