-- Inner: what the code asks of a patch, no part of what a caller is promised. Definitions only.
use Rattle.std.specs.Prelude.{ℕ, ◌<◌, ◌≤◌}
use Rattle.params.specs.Limits.{max_side}
use Rattle.picture.specs.declared.Size.{Size}
use Rattle.descriptor_patch.specs.declared.Patch.{Patch}

-- no patch reaches further: 3 × 64 × √2 × 5 × 0.5, rounded
abbrev pub max_radius : ℕ
max_radius = 679

-- the sides of a picture
pub record Sides (s : Size) : Type 0 where
  pub some_cols : 1 ≤ s.width
  pub some_rows : 1 ≤ s.height
  pub wide : s.width ≤ max_side
  pub high : s.height ≤ max_side

-- the patch lies about a cell of its picture
pub record Lies (t : Patch) : Type 0 where
  pub wide : t.size.width ≤ max_side
  pub high : t.size.height ≤ max_side
  pub col : t.px < t.size.width
  pub row : t.py < t.size.height
  pub reach : t.radius ≤ max_radius
