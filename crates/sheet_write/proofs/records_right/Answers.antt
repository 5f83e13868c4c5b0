use mathlib.Core.Path.{ap, ◌∙◌}
use borrow.Author.Rules.{rules}
use Rattle.sheet.specs.Sheet.{all_pass}
use Rattle.sheet.specs.Writes.{frame_for, words_right}
use Rattle.sheet.proofs.Chunks.{pass_run}
use Rattle.sheet_edition.specs.Edition.{layout_for}
use Rattle.sheet_write.proofs.Written.{words_pos, records_are}
use Rattle.sheet_write.proofs.records_right.Goals as goal

pub returns : goal.returns
returns c =
    let e = c.args.e in
    let right = words_right (layout_for e) (frame_for c.args.frame) in
    pass_run _ _ _ _ right c.all.ensures.runs c.chunks_exact.ensures.runs (search rules) (search rules)
    _ _ (words_pos e) c.chunks_exact.ensures.size c.chunks_exact.ensures.rest
    ∙ ap (all_pass right) (records_are e c.args.words.now)
