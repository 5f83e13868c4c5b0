use Rattle.std.proofs.Common.{◌≡◌, ◌+◌, ◌-◌, ◌≤◌, ◌<◌, ◌∙◌, sym, subst, ℕ, List, arith, rules, length, take, drop, get_or, length-take, length-drop}
use lib.Seq.{get_or-take, get_or-drop}
use Rattle.params.specs.Limits.{value_count}
use Rattle.sheet.specs.Words.{front_words}
use Rattle.sheet.proofs.Steps.{copy_next, copy_end}
use Rattle.sheet_pack.proofs.put_values.Goals as goal

pub overflow_cast-out : goal.overflow_cast-out
overflow_cast-out c =
    let l = c.loop-i in
    let i : l.i < value_count = let t = simp (length-take, length-drop) at c.loop-i-test.true in omega arith in
    let e = get_or-take value_count (drop front_words c.args.words.now) l.i 0 i ∙ get_or-drop front_words c.args.words.now l.i 0 in
    record { fits = subst (λ (n : ℕ). n < 256) (sym e) (c.requires.by_index l.i i) }

pub loop-i-preserved : goal.loop-i-preserved
loop-i-preserved c =
    let l = c.loop-i in
    let values = take value_count (drop front_words c.args.words.now) in
    let room : c.args.at + length values ≤ length l.out = simp (length-take, length-drop) (omega arith) in
    (search rules, copy_next l.i c.args.at values l.out c.loop-i-test.true room ∙ l.invariant.1)

pub returns : goal.returns
returns c =
    let l = c.loop-i in
    sym (copy_end l.i _ _ l.out c.loop-i-test.false) ∙ l.invariant.1
