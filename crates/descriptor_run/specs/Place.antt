-- Inner: what the code asks of a run, no part of what a caller is promised. Definitions only.
use Rattle.std.specs.Prelude.{ℕ, ◌+◌, ◌<◌, ◌≤◌}
use Rattle.descriptor_patch.specs.declared.Patch.{Patch}
use Rattle.descriptor_run.specs.declared.Run.{Run}

-- the columns e of row r, and their neighbours, lie in the picture
pub record Inner (t : Patch) (r : ℕ) (e : Run) : Type 0 where
  pub up : 1 ≤ r
  pub down : r + 1 < t.size.height
  pub left : 1 ≤ e.first
  pub right : e.past + 1 ≤ t.size.width
