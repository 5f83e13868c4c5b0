use mathlib.Core.Path.{◌∙◌}
use mathlib.Core.Bool.{◌&&◌}
use lib.ListN.{drop}
use Rattle.sheet.specs.Layout.{front_size}
use Rattle.sheet.specs.Words.{all_zero}
use Rattle.sheet.specs.Writes.{frame_for}
use Rattle.sheet.proofs.Lawful.{lawful_edition, angled_edition}
use Rattle.sheet.proofs.Steps.{all_nought}
use Rattle.sheet_edition.specs.Edition.{layout_for}
use Rattle.sheet_fields.specs.Fields.{record_bytes_right}
use Rattle.sheet_unpack.proofs.Taken.{Tested, right_is, fields_fail, not_blank, values_say}
use Rattle.sheet_unpack.proofs.record_right.Goals as goal
use Rattle.sheet_unpack.proofs.record_right.Goals.{After-floats_right-floats}

said : (c : After-floats_right-floats) →
    Tested (record_bytes_right (layout_for c.args.e) (frame_for c.args.frame) c.args.bytes.now)
    (c.head_right-whole.result && c.floats_right-floats.result)
    c.head_in-head.result.blank
    (all_zero (drop (front_size (layout_for c.args.e)) c.args.bytes.now))
said c =
    let e = c.args.e in
    let h = c.head_in-head in
    let x = c.floats_in in
    right_is (layout_for e) (lawful_edition e.number) (angled_edition e.number) c.args.bytes.now c.requires (λ i. (c.type_inv.bytes i).fits) h.result x.result h.ensures.bytes_value x.ensures.bytes_value (frame_for c.args.frame) _ _ c.head_right-whole.ensures c.floats_right-floats.ensures

pub returns-else-whole-floats : goal.returns-else-whole-floats
returns-else-whole-floats c = fields_fail (said (goal.at.returns-else-whole-floats c).After-floats_right-floats) c.if-whole-floats.false

pub returns-then-head-eq0 : goal.returns-then-head-eq0
returns-then-head-eq0 c = not_blank (said (goal.at.returns-then-head-eq0 c).After-floats_right-floats) c.if-whole-floats.true c.if-head-eq0.true

pub returns-else-head-eq0 : goal.returns-else-head-eq0
returns-else-head-eq0 c = c.values_zero.ensures ∙ all_nought _ ∙ values_say (said (goal.at.returns-else-head-eq0 c).After-floats_right-floats) c.if-whole-floats.true c.if-head-eq0.false
