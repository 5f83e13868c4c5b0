use Rattle.std.proofs.Common.{◌∙◌, arith}
use Rattle.std.specs.Float.{nan}
use Rattle.orient_words.proofs.Words.{words_none, words_more, words_whole, copied}
use Rattle.orient_words.proofs.put_all.Goals as goal

pub loop-i-init : goal.loop-i-init
loop-i-init c = words_none _ _ _

pub loop-i-preserved : goal.loop-i-preserved
loop-i-preserved c =
    let l = c.loop-i in
    words_more c.args.k c.args.found.now nan l.i _ _ _ _ c.loop-i-test.true (omega arith) c.with_angle.ensures l.invariant
    (copied _ _ _ _ _ (c.copy_from_slice.ensures.after ∙ c.words_of.ensures) (omega arith))

pub returns : goal.returns
returns c = c.loop-i.invariant ∙ rw (words_whole c.args.k c.args.found.now c.loop-i.i c.loop-i-test.false)
