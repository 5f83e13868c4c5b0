use mathlib.Core.Path.{◌∙◌}
use Rattle.descriptor_reads.proofs.Window.{window_in, window_yes}
use Rattle.descriptor_reads.proofs.patch_good.Goals as goal

pub area_good-requires : goal.area_good-requires
area_good-requires c =
    window_in c.args.t _ _ _ _ c.requires.0 c.requires.1 c.first_in.ensures c.past_in.ensures c.first_in-2.ensures c.past_in-2.ensures

pub returns-then-area_good : goal.returns-then-area_good
returns-then-area_good c =
    c.if-area_good.true
    ∙ window_yes c.args.img.now c.args.t c.requires.0 c.requires.1 c.first_in.ensures c.past_in.ensures c.first_in-2.ensures c.past_in-2.ensures c.area_good.ensures c.if-area_good.true
