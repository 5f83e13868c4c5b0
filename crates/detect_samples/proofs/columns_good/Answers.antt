use mathlib.Core.Path.{◌≡◌, sym}
use native.Mathlib.Omega.{arith}
use Rattle.detect_samples.proofs.Spans.{span_none, span_join}
use Rattle.detect_samples.proofs.columns_good.Goals as goal

pub loop-c-init : goal.loop-c-init
loop-c-init c = let a = c.args in sym (span_none a.t a.r a.lo a.d.now)

pub loop-c-preserved : goal.loop-c-preserved
loop-c-preserved c =
    let l = c.loop-c in
    let a = c.args in
    rw (l.invariant, c.column_good-ok.ensures) (span_join a.t a.r a.lo l.c _ a.d.now (omega arith) (omega arith))

pub returns : goal.returns
returns c =
    let l = c.loop-c in
    let e : l.c ≡ c.args.hi = omega arith in
    rw e at l.invariant
