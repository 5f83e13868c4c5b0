-- Inner: the run of a row as columns of the picture, so that no other cell of the row is looked at. No part of what a caller is promised. Definitions only.
use Rattle.std.specs.Prelude.{ℕ, suc, ◌+◌, ◌-◌, min, max, cond, List, [], ℤ, pos, negsuc}
use Rattle.std.specs.Float.Ieee.{neg}
use Rattle.ieee.specs.F32.{◌<ᶠ◌, floor_of, to_i32}
use Rattle.lists.specs.Ranges.{joined}
use Rattle.picture.specs.Picture.{first_in, past_in}
use Rattle.descriptor_patch.specs.Patch.{grid_at}
use Rattle.descriptor_patch.specs.declared.Patch.{Patch}
use Rattle.descriptor_run.specs.Cells.{ends_of}
use Rattle.descriptor_run.specs.declared.Ends.{Ends}
use Rattle.descriptor_run.specs.declared.Run.{Run}

-- `at` and z, and 0 where that is below it
unfoldable pub shifted : ℕ → ℤ → ℕ
shifted at (pos n) = at + n
shifted at (negsuc n) = at - suc n

-- the columns of the run whose ends are e, about column px, of those from a to below b
unfoldable pub columns : ℕ → ℕ → ℕ → Ends → Run
columns a b px e =
    cond (e.hi <ᶠ e.lo) (record { first = a; past = 0 })
    (record {
      first = max a (shifted px (to_i32 (floor_of e.lo)) - 1);
      past = min b (shifted (px + 2) (to_i32 (neg (floor_of (neg e.hi)))));
    })

-- the columns of the window and of the run of row r
unfoldable pub run_of : Patch → ℕ → Run
run_of t r = columns (first_in t.px t.radius) (past_in t.px t.radius t.size.width) t.px (ends_of t r)

-- what is said of each cell of some columns of row r that lies in the grid, joined
unfoldable pub over_run {ℓ} : {A : Type ℓ} → Patch → ℕ → (ℕ → ℕ → List A) → Run → List A
over_run t r part e = joined e.first e.past (λ c. cond (grid_at t r c) (part r c) [])

-- and of each of row r's run that does
unfoldable pub row_of {ℓ} : {A : Type ℓ} → Patch → (ℕ → ℕ → List A) → ℕ → List A
row_of t part r = over_run t r part (run_of t r)
