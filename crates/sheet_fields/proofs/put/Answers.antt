use mathlib.Core.Path.{sym, ◌∙◌}
use Prim.Native.Nat.{◌+◌, ◌≤◌}
use native.Mathlib.Omega.{arith}
use borrow.Author.Rules.{rules}
use lib.ListN.{length}
use Rattle.sheet.proofs.Steps.{put_turn, put_end}
use Rattle.sheet_fields.proofs.put.Goals as goal

pub loop-i-preserved : goal.loop-i-preserved
loop-i-preserved c =
    let l = c.loop-i in
    let a = c.args in
    let room : a.at + l.i ≤ length l.out = omega arith in
    (search rules, put_turn a.at l.i l.m l.out c.loop-i-test.true room ∙ l.invariant.1)

pub returns : goal.returns
returns c =
    let l = c.loop-i in
    sym (put_end c.args.at l.m l.i l.out c.loop-i-test.false) ∙ l.invariant.1
