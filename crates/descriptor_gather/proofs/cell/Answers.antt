use mathlib.Core.Path.{◌≡◌, sym, ◌∙◌}
use mathlib.Core.Bool.{Bool, true}
use lib.Ieee.{Float}
use Rattle.descriptor_patch.specs.Patch.{rots_of, bin_of, in_grid, grid_at, sample_at}
use Rattle.descriptor_shares.proofs.Spreads.{grid_near}
use Rattle.descriptor_gather.specs.Gather.{sample_in}
use Rattle.descriptor_gather.proofs.Adds.{holds_used, holds_unused}
use Rattle.descriptor_gather.proofs.Cells.{Tested, grid_above, grid_beside, grid_in, settled}
use Rattle.descriptor_gather.proofs.cell.Goals as goal
use Rattle.descriptor_gather.proofs.cell.Goals.{After-in_grid, After-in_grid-then-in_grid, Then-in_grid-2}

-- a row or a column, as far as it is tested
tested : {rot x b : Float} {g : Bool} → x ≡ rot → b ≡ bin_of x → g ≡ in_grid b → Tested rot x b g
tested p q r = record { is = p; bin = q; test = r }

-- the row and the column
row_tested : (c : After-in_grid) → Tested (rots_of c.args.t c.args.r c.args.c).row c.rot_row-row.result c.bin_of-rbin.result c.in_grid.result
row_tested c = tested c.rot_row-row.ensures c.bin_of-rbin.ensures c.in_grid.ensures

col_tested : (c : After-in_grid-then-in_grid) → Tested (rots_of c.args.t c.args.r c.args.c).col c.rot_col-col.result c.bin_of-cbin.result c.in_grid-then-in_grid.result
col_tested c = tested c.rot_col-col.ensures c.bin_of-cbin.ensures c.in_grid-then-in_grid.ensures

in_cell : (c : Then-in_grid-2) → grid_at c.args.t c.args.r c.args.c ≡ true
in_cell c =
    let x = c.args in
    grid_in x.t x.r x.c
    (tested c.rot_row-row.ensures c.bin_of-rbin.ensures c.in_grid.ensures)
    (tested c.rot_col-col.ensures c.bin_of-cbin.ensures c.in_grid-then-in_grid.ensures)
    c.if-in_grid.true c.if-in_grid-2.true

pub split_of-rs-requires : goal.split_of-rs-requires
split_of-rs-requires c = grid_near _ (sym c.in_grid.ensures ∙ c.if-in_grid.true)

pub split_of-cs-requires : goal.split_of-cs-requires
split_of-cs-requires c = grid_near _ (sym c.in_grid-then-in_grid.ensures ∙ c.if-in_grid-2.true)

pub sample_at-s-requires : goal.sample_at-s-requires
sample_at-s-requires c =
    let p = c.requires in
    (p.1.0, (p.0.lies, rw (c.rot_row-row.ensures, c.rot_col-col.ensures)))

pub add-requires : goal.add-requires
add-requires c =
    let x = c.args in
    let p = c.requires in
    let at = goal.at.add-requires c in
    let g = in_cell at.Then-in_grid-2 in
    settled x.t x.r x.c (row_tested at.After-in_grid) (col_tested at.After-in_grid-then-in_grid) x.img.now _ _ _ p.0.turn g (rw g at p.1.1) c.sample_at-s.ensures c.split_of-rs.ensures c.split_of-cs.ensures

pub returns-then-in_grid-2 : goal.returns-then-in_grid-2
returns-then-in_grid-2 c =
    let x = c.args in
    let g = in_cell (goal.at.returns-then-in_grid-2 c).Then-in_grid-2 in
    let k = holds_used x.t.angle x.hist.now _ _ (sample_at x.img.now x.t x.r x.c) (grid_at x.t x.r x.c) g c.sample_at-s.ensures c.add.ensures in
    (k.held, k.count)

pub returns-else-in_grid-2 : goal.returns-else-in_grid-2
returns-else-in_grid-2 c =
    let x = c.args in
    let at = goal.at.returns-else-in_grid-2 c in
    let g = grid_beside x.t x.r x.c (row_tested at.After-in_grid) (col_tested at.After-in_grid-then-in_grid) c.if-in_grid-2.false in
    let k = holds_unused x.t.angle x.hist.now (sample_in x.img.now x.t x.r x.c) (grid_at x.t x.r x.c) g in
    (k.held, k.count)

pub returns-else-in_grid : goal.returns-else-in_grid
returns-else-in_grid c =
    let x = c.args in
    let g = grid_above x.t x.r x.c (row_tested (goal.at.returns-else-in_grid c).After-in_grid) c.if-in_grid.false in
    let k = holds_unused x.t.angle x.hist.now (sample_in x.img.now x.t x.r x.c) (grid_at x.t x.r x.c) g in
    (k.held, k.count)
