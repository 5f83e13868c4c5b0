use Rattle.record.proofs.Wrong.{refused, short, done, ready}
use Rattle.record.proofs.make_record.Goals as goal

pub returns-then-record_wrong-clause-value : goal.returns-then-record_wrong-clause-value
returns-then-record_wrong-clause-value c = let a = c.args in refused a.keypoint.now a.oriented.now a.values.now a.out.now a.samples _ _ c.keypoint_in-k.ensures c.oriented_in-o.ensures _ c.record_wrong.ensures c.if-record_wrong.true

pub returns-then-out-ne-READ_WORDS-clause-value : goal.returns-then-out-ne-READ_WORDS-clause-value
returns-then-out-ne-READ_WORDS-clause-value c = let a = c.args in short a.keypoint.now a.oriented.now a.values.now a.out.now a.samples _ _ c.keypoint_in-k.ensures c.oriented_in-o.ensures _ c.record_wrong.ensures c.if-record_wrong.false c.if-out-ne-READ_WORDS.true

pub put_record-requires : goal.put_record-requires
put_record-requires c = let a = c.args in (ready a.keypoint.now a.oriented.now a.values.now a.out.now a.samples _ _ c.keypoint_in-k.ensures c.oriented_in-o.ensures _ c.record_wrong.ensures c.if-record_wrong.false, c.if-out-ne-READ_WORDS.false)

pub returns-clause-value : goal.returns-clause-value
returns-clause-value c = let a = c.args in done a.keypoint.now a.oriented.now a.values.now a.out.now a.samples _ _ c.keypoint_in-k.ensures c.oriented_in-o.ensures _ c.record_wrong.ensures _ c.if-record_wrong.false c.if-out-ne-READ_WORDS.false c.put_record.ensures
