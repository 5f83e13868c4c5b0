use mathlib.Core.Path.{◌∙◌}
use Rattle.descriptor_words.specs.Words.{turn_at}
use Rattle.descriptor_words.proofs.Cells.{cell_told}
use Rattle.descriptor_words.proofs.turn_at.Goals as goal

pub returns : goal.returns
unfolding turn_at
returns c =
    let x = c.round_to_i32 in
    let y = c.round_to_i32-2 in
    let px = cell_told _ _ _ (record { sfits = x.type_inv }) (record { sfits = c.max-px.type_inv }) x.ensures c.max-px.ensures.value in
    let py = cell_told _ _ _ (record { sfits = y.type_inv }) (record { sfits = c.max-py.type_inv }) y.ensures c.max-py.ensures.value in
    let k = c.patch_of.ensures in
    (k.0 ∙ rw (px, py), k.1)
