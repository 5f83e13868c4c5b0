-- Inner: what the code asks of a run of cells, no part of a public contract. Definitions only.
use Rattle.std.specs.Prelude.{ℕ, ◌-◌, ◌<◌, ◌≤◌}
use Rattle.params.specs.Limits.{border}
use Rattle.picture.specs.declared.Shape.{Shape}
use Rattle.detect_look.specs.declared.Run.{Run}

-- so many cells are asked at once whether one of them has a hint, and marked
abbrev pub group : ℕ
group = 16

-- the run's cells are at least the border from the edges
pub record Along (t : Shape) (u : Run) : Type 0 where
  pub top : border ≤ u.row
  pub bottom : u.row < t.height - border
  pub start : border ≤ u.lo
  pub order : u.lo ≤ u.hi
  pub end : u.hi ≤ t.width - border
