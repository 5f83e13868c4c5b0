use native.Mathlib.Omega.{arith}
use Rattle.descriptor_words.proofs.Filled.{put_more, put_all}
use Rattle.descriptor_words.proofs.put.Goals as goal

pub loop-n-preserved : goal.loop-n-preserved
loop-n-preserved c =
    let l = c.loop-n in
    put_more c.args.v.now l.out l.n _ (omega arith) (omega arith) c.bits_of.ensures l.invariant

pub returns : goal.returns
returns c = let l = c.loop-n in put_all c.args.v.now l.out l.n (omega arith) (omega arith) l.invariant
