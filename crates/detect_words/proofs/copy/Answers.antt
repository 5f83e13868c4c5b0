use Prim.Native.Nat.{◌<◌}
use mathlib.Core.Path.{◌∙◌}
use native.Mathlib.Omega.{arith}
use lib.ListN.{length}
use Rattle.detect_words.proofs.Words.{sets_more}
use Rattle.detect_words.proofs.copy.Goals as goal

pub loop-i-preserved : goal.loop-i-preserved
loop-i-preserved c =
    let l = c.loop-i in
    let h : l.i < length c.args.from.now = omega arith in
    c.put_word.ensures ∙ rw l.invariant (sets_more _ _ _ _ _ h)
