use Rattle.record.proofs.Wrong.{wrong_keypoints, wrong_values, edition_two, asked, rules_decide}
use Rattle.record.proofs.record_wrong.Goals as goal

pub returns-then-k-is_alike : goal.returns-then-k-is_alike
returns-then-k-is_alike c =
    let a = c.args in
    wrong_keypoints a.k a.o a.values.now a.samples _ c.is_alike.ensures c.if-k-is_alike.true

pub returns-then-values-ne-VALUES : goal.returns-then-values-ne-VALUES
returns-then-values-ne-VALUES c =
    let a = c.args in
    wrong_values a.k a.o a.values.now a.samples c.if-values-ne-VALUES.true

pub record_right-requires : goal.record_right-requires
record_right-requires c =
    let a = c.args in
    asked a.k a.o a.values.now a.samples c.edition_of.result _ (edition_two c.edition_of.result c.edition_of.ensures) c.if-values-ne-VALUES.false c.put_record.ensures

pub returns : goal.returns
returns c =
    let a = c.args in
    rules_decide a.k a.o a.values.now a.samples _ c.is_alike.ensures c.if-k-is_alike.false c.if-values-ne-VALUES.false c.edition_of.result _ _ (edition_two c.edition_of.result c.edition_of.ensures) c.put_record.ensures c.record_right.ensures
