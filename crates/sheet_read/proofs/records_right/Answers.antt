use mathlib.Core.Path.{ap, ◌∙◌}
use borrow.Author.Rules.{rules}
use Rattle.sheet.specs.Sheet.{all_pass}
use Rattle.sheet.specs.Writes.{frame_for}
use Rattle.sheet.proofs.Chunks.{pass_run}
use Rattle.sheet_edition.specs.Edition.{layout_for}
use Rattle.sheet_fields.specs.Fields.{record_bytes_right}
use Rattle.sheet_read.proofs.Taken.{bytes_pos, parts_are}
use Rattle.sheet_read.proofs.records_right.Goals as goal

pub returns : goal.returns
returns c =
    let e = c.args.e in
    let right = record_bytes_right (layout_for e) (frame_for c.args.frame) in
    pass_run _ _ _ _ right c.all.ensures.runs c.chunks_exact.ensures.runs (search rules) (search rules)
    _ _ (bytes_pos e) c.chunks_exact.ensures.size c.chunks_exact.ensures.rest
    ∙ ap (all_pass right) (parts_are e c.args.body.now)
