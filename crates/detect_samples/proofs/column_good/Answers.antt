use mathlib.Core.Path.{◌≡◌, sym}
use native.Mathlib.Omega.{arith}
use Rattle.lists.proofs.Every.{every_none}
use Rattle.detect_samples.specs.Rows.{span_good}
use Rattle.detect_samples.proofs.Spans.{line, column_more}
use Rattle.detect_samples.proofs.column_good.Goals as goal

pub loop-p-init : goal.loop-p-init
loop-p-init c = sym (every_none _)

pub loop-p-preserved : goal.loop-p-preserved
loop-p-preserved c =
    let l = c.loop-p in
    let a = c.args in
    let h = line a.t.planes a.t.height a.t.width l.p a.r (omega arith) (omega arith) in
    column_more a.t a.r a.c a.d.now l.p _ _ _ h.is (omega (arith, h)) l.invariant c.good_sample-ok.ensures

pub returns : goal.returns
unfolding span_good
returns c =
    let l = c.loop-p in
    let e : l.p ≡ c.args.t.planes = omega arith in
    rw e at l.invariant
