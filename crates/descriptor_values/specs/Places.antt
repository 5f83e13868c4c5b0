-- The places of the histogram of 6 × 6 cells of 10 slots. Definitions only.
use Rattle.std.specs.Prelude.{ℕ, ◌+◌, ◌*◌}

-- the cells of a side, the slots of a cell, the places of a row of cells and all, and the slots that go out
abbrev pub cells : ℕ
cells = 6

abbrev pub slots : ℕ
slots = 10

abbrev pub row_places : ℕ
row_places = 60

abbrev pub places : ℕ
places = 360

abbrev pub bins : ℕ
bins = 8

-- where slot o of the cell at row r, column c lies
abbrev pub place : ℕ → ℕ → ℕ → ℕ
place r c o = (r * cells + c) * slots + o
