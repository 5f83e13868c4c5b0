use Rattle.record.proofs.Puts.{blank_is, record_is, record_long}
use Rattle.record.proofs.put_record.Goals as goal

pub shape_of-out : goal.shape_of-out
shape_of-out c =
    record_long c.args.k c.args.o c.args.values.now c.args.out.now _ _ c.args.samples c.requires.0 c.requires.1 c.put_front.ensures c.put_values.ensures _

pub returns : goal.returns
returns c =
    rw (c.from.ensures, blank_is) (record_is c.args.k c.args.o c.args.values.now c.args.out.now _ _ c.args.samples c.requires.0 c.requires.1 c.put_front.ensures c.put_values.ensures)
