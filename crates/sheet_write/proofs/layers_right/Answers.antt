use mathlib.Core.Path.{ap, ◌∙◌}
use borrow.Author.Rules.{rules}
use Rattle.sheet.specs.Sheet.{all_pass}
use Rattle.sheet.specs.Writes.{layer_right}
use Rattle.sheet.proofs.Chunks.{pass_run}
use Rattle.sheet_write.proofs.Written.{words_pos, records_are}
use Rattle.sheet_write.proofs.layers_right.Goals as goal

pub returns : goal.returns
returns c =
    let e = c.args.e in
    pass_run _ _ _ _ (layer_right c.args.layers) c.all.ensures.runs c.chunks_exact.ensures.runs (search rules) (search rules)
    _ _ (words_pos e) c.chunks_exact.ensures.size c.chunks_exact.ensures.rest
    ∙ ap (all_pass (layer_right c.args.layers)) (records_are e c.args.words.now)
