use mathlib.Core.Path.{◌≡◌, refl}
use borrow.Author.Tests.{le-leb, lt-leb}
use lib.Dec.{leb}
use Rattle.descriptor_values.specs.Places.{place}
use Rattle.descriptor_grid.proofs.Scatters.{row_when, row_put, row_left, four}
use Rattle.descriptor_grid.proofs.scatter.Goals as goal
use Rattle.descriptor_grid.proofs.scatter.Goals.{Joined-p-ge1, then-p-ge1, else-p-ge1}

first : (c : Joined-p-ge1) → let p = c.args.p in c.if-p-ge1.hist ≡ row_when (leb 1 p.row) c.args.hist.now (place p.row p.col p.slot) p.col p.shares.v000 p.shares.v001 p.shares.v010 p.shares.v011
first c =
    elim c.if-p-ge1.branch [
      | then-p-ge1 w ↦ row_put c.args.hist.now _ _ _ _ _ _ (le-leb 1 c.args.p.row w.if-p-ge1.true) refl (rw w.hist-is w.row_at.ensures)
      | else-p-ge1 w ↦ row_left c.args.hist.now _ _ _ _ _ _ (lt-leb 1 c.args.p.row w.if-p-ge1.false) w.hist-is
    ]

pub returns-then-p-le3 : goal.returns-then-p-le3
returns-then-p-le3 c =
    four c.args.p c.args.hist.now c.requires (first (goal.at.returns-then-p-le3 c).Joined-p-ge1)
    (row_put _ _ _ _ _ _ _ (le-leb c.args.p.row 3 c.if-p-le3.true) refl c.row_at-then-p-le3.ensures)

pub returns-else-p-le3 : goal.returns-else-p-le3
returns-else-p-le3 c =
    four c.args.p c.args.hist.now c.requires (first (goal.at.returns-else-p-le3 c).Joined-p-ge1)
    (row_left _ _ _ _ _ _ _ (lt-leb c.args.p.row 3 c.if-p-le3.false) refl)
