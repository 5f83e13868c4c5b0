use Rattle.std.proofs.Common.{◌≡◌, sym, ◌∙◌, arith}
use Rattle.orient_window.specs.Good.{row_good}
use Rattle.orient_window.proofs.Cells.{cell_around}
use Rattle.lists.proofs.Every.{every_none, every_step, every_to}
use Rattle.orient_window.proofs.row_good.Goals as goal

pub loop-j-init : goal.loop-j-init
loop-j-init c = sym (every_none _)

pub four_good-ok-requires : goal.four_good-ok-requires
four_good-ok-requires c = cell_around c.requires.0 _ _ c.requires.1 c.loop-j-test.true

pub loop-j-preserved : goal.loop-j-preserved
loop-j-preserved c =
    let l = c.loop-j in
    rw (l.invariant, c.four_good-ok.ensures) (every_step l.j _)

pub returns : goal.returns
unfolding row_good
returns c =
    let l = c.loop-j in
    let z : l.j ≡ c.args.win.cols = omega arith in
    l.invariant ∙ every_to _ z
