use Rattle.record.proofs.Puts.{alike_is}
use Rattle.record.proofs.is_alike.Goals as goal

pub returns : goal.returns
returns c =
    let a = c.args in
    alike_is a.k a.o _ _ _ _ _ _ _ _ c.bits_of.ensures c.bits_of-2.ensures c.bits_of-3.ensures c.bits_of-4.ensures c.bits_of-5.ensures c.bits_of-6.ensures c.bits_of-7.ensures c.bits_of-8.ensures
