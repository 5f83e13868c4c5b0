use Rattle.std.proofs.Common.{sym, ◌∙◌}
use Rattle.orient_window.proofs.Round.{some_cells, area_in, area_window}
use Rattle.orient_window.proofs.window_good.Goals as goal

pub area_good-requires : goal.area_good-requires
area_good-requires c =
    let w = c.args.win in
    let p = some_cells w.rows w.cols c.if-win.true in
    area_in _ w c.requires p.0 p.1

pub returns-then-area_good : goal.returns-then-area_good
returns-then-area_good c =
    let p = some_cells c.args.win.rows c.args.win.cols c.if-win.true in
    sym (area_window c.args.img.now c.args.win c.requires p.0 p.1 (sym c.area_good.ensures ∙ c.if-area_good.true))
