use native.Mathlib.Omega.{arith}
use Rattle.sheet.specs.Words.{head_words}
use Rattle.sheet_pack.proofs.Written.{five_are}
use Rattle.sheet_pack.proofs.floats_of.Goals as goal

pub returns : goal.returns
returns c =
    five_are c.args.words.now head_words _ _ _ _ _ (omega arith) c.from.ensures c.from-2.ensures c.from-3.ensures c.from-4.ensures c.from-5.ensures
