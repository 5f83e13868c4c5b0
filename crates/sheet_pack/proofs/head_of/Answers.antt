use Rattle.sheet_pack.proofs.Written.{head_are}
use Rattle.sheet_pack.proofs.head_of.Goals as goal

pub returns : goal.returns
returns c =
    head_are c.args.words.now _ _ _ _ _ _ c.requires c.from.ensures c.from-2.ensures c.from-3.ensures c.from-4.ensures c.from-5.ensures c.blank_of.ensures
