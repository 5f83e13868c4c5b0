use Rattle.std.proofs.Common.{arith, length-set}
use Rattle.record.proofs.Puts.{front_is}
use Rattle.record.proofs.put_front.Goals as goal

pub bounds-out-1 : goal.bounds-out-1
bounds-out-1 c = simp length-set (omega (arith, c.requires))

pub bounds-out-2 : goal.bounds-out-2
bounds-out-2 c = simp length-set (omega (arith, c.requires))

pub bounds-out-3 : goal.bounds-out-3
bounds-out-3 c = simp length-set (omega (arith, c.requires))

pub bounds-out-4 : goal.bounds-out-4
bounds-out-4 c = simp length-set (omega (arith, c.requires))

pub bounds-out-5 : goal.bounds-out-5
bounds-out-5 c = simp length-set (omega (arith, c.requires))

pub bounds-out-6 : goal.bounds-out-6
bounds-out-6 c = simp length-set (omega (arith, c.requires))

pub bounds-out-7 : goal.bounds-out-7
bounds-out-7 c = simp length-set (omega (arith, c.requires))

pub bounds-out-8 : goal.bounds-out-8
bounds-out-8 c = simp length-set (omega (arith, c.requires))

pub bounds-out-9 : goal.bounds-out-9
bounds-out-9 c = simp length-set (omega (arith, c.requires))

pub shape_of-out : goal.shape_of-out
shape_of-out c = simp length-set

pub returns : goal.returns
returns c =
    let a = c.args in
    front_is a.k a.o a.out.now _ _ _ _ _ c.requires c.bits_of.ensures c.bits_of-2.ensures c.bits_of-3.ensures c.bits_of-4.ensures c.bits_of-5.ensures
