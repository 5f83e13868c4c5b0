use mathlib.Core.Path.{ap, ◌∙◌}
use Prim.Native.Nat.{◌+◌}
use Rattle.lists.specs.Pasted.{pasted}
use Rattle.sheet.specs.Words.{head_words}
use Rattle.sheet_edition.specs.Edition.{layout_for}
use Rattle.sheet_fields.specs.Fields.{float_values}
use Rattle.sheet_unpack.proofs.Taken.{front_set}
use Rattle.sheet_unpack.proofs.take_front.Goals as goal

pub returns : goal.returns
returns c =
    let h = c.head_in in
    let x = c.floats_in in
    c.put_floats.ensures
    ∙ ap (pasted (c.args.to + head_words) (float_values x.result)) c.put_head.ensures
    ∙ front_set (layout_for c.args.e) c.args.bytes.now h.result h.ensures.bytes_value x.result x.ensures.bytes_value c.args.to c.args.out.now c.requires.front_words_in_bounds
