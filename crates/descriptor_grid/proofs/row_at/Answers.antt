use mathlib.Core.Path.{◌≡◌, refl}
use borrow.Author.Tests.{le-leb, lt-leb}
use lib.Dec.{leb}
use Rattle.descriptor_grid.specs.Grid.{when}
use Rattle.descriptor_grid.proofs.Scatters.{when_put, when_left}
use Rattle.descriptor_grid.proofs.row_at.Goals as goal
use Rattle.descriptor_grid.proofs.row_at.Goals.{Joined-col-ge1, then-col-ge1, else-col-ge1}

first : (c : Joined-col-ge1) → c.if-col-ge1.hist ≡ when (leb 1 c.args.col) c.args.hist.now c.args.i c.args.s.v00 c.args.s.v01
first c =
    elim c.if-col-ge1.branch [
      | then-col-ge1 w ↦ when_put c.args.hist.now _ _ _ (le-leb 1 c.args.col w.if-col-ge1.true) refl (rw w.hist-is w.pair_at.ensures)
      | else-col-ge1 w ↦ when_left c.args.hist.now _ _ _ (lt-leb 1 c.args.col w.if-col-ge1.false) w.hist-is
    ]

pub returns-then-col-le3 : goal.returns-then-col-le3
returns-then-col-le3 c = when_put _ _ _ _ (le-leb c.args.col 3 c.if-col-le3.true) (first (goal.at.returns-then-col-le3 c).Joined-col-ge1) c.pair_at-then-col-le3.ensures

pub returns-else-col-le3 : goal.returns-else-col-le3
returns-else-col-le3 c = when_left _ _ _ _ (lt-leb c.args.col 3 c.if-col-le3.false) (first (goal.at.returns-else-col-le3 c).Joined-col-ge1)
