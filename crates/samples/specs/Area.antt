-- Inner: the samples of an area of a picture, and of the cells round it, in range (rule A13). More than the four neighbours of its cells: only a yes says something of them. Definitions only.
use Rattle.std.specs.Prelude.{ℕ, ◌+◌, ◌-◌, ◌*◌, ◌≤◌, ◌≡◌, Bool, List, Float}
use Rattle.lists.specs.Ranges.{every}
use Rattle.samples.specs.Samples.{good_from}
use Rattle.samples.specs.declared.Area.{Area}
use Rattle.picture.specs.declared.Size.{Size}

-- the list, `len` long, is a picture of that size, and the area lies in it with the cells round it
pub record Inset (len : ℕ) (s : Size) (a : Area) : Type 0 where
  pub whole : len ≡ s.height * s.width
  pub up : 1 ≤ a.top
  pub down : a.bottom + 1 ≤ s.height
  pub left : 1 ≤ a.left
  pub right : a.right + 1 ≤ s.width
  pub order : a.left ≤ a.right + 1

-- the samples of row r from column `from` to below column `to` are good
unfoldable pub strip_good : List Float → ℕ → ℕ → ℕ → ℕ → Bool
strip_good img w from to r = good_from (r * w + from) (r * w + to) img

-- so are those of each row of the area, of the row above and of the one below, from the column before the area to the one after it
unfoldable pub area_good : List Float → ℕ → Area → Bool
area_good img w a = every (a.bottom + 2 - a.top) (λ i. strip_good img w (a.left - 1) (a.right + 1) (a.top - 1 + i))
