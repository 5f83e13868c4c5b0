-- How many keypoints cells, rows and the whole give. Assumes nothing.
use Rattle.std.specs.Prelude.{Option, Some, None, option_to_list}
use Prim.Native.Nat.{ℕ, ◌-◌, ◌*◌, ◌≤◌}
use mathlib.Core.Path.{◌≡◌}
use mathlib.Core.Bool.{Bool, true, false, cond}
use mathlib.Core.List.{List, []}
use native.Mathlib.Nat.{mul-one}
use native.Mathlib.Omega.{arith}
use lib.ListN.{length}
use lib.Ieee.{Float}
use Rattle.lists.specs.Ranges.{joined}
use Rattle.lists.proofs.Ranges.{joined_none, joined_empty, joined_bound}
use Rattle.params.specs.Limits.{border}
use Rattle.picture.specs.declared.Shape.{Shape}
use Rattle.detect_refine.specs.Settle.{refine_of}
use Rattle.detect_keypoint.specs.declared.Search.{Search}
use Rattle.detect_keypoint.specs.declared.RawKeypoint.{RawKeypoint}
use Rattle.detect_extrema.specs.Neighbours.{Rule, candidate}
use Rattle.detect_extrema.specs.Scan.{cell_of, found, row_of, keypoints}

kept_one : (x : Option RawKeypoint) → length (option_to_list x) ≤ 1
kept_one None = omega arith
kept_one (Some k) = omega arith

chosen_one : (b : Bool) (x : Option RawKeypoint) → length (cond b (option_to_list x) []) ≤ 1
chosen_one true x = kept_one x
chosen_one false x = omega arith

module _ (rule : Rule) (d : List Float) (t : Shape) (s : Search) where
  pub found_one : (r c : ℕ) → length (found rule d t s r c) ≤ 1
  unfolding found
  found_one r c = chosen_one (candidate rule s.threshold d t s.layer r c) (refine_of d t s (cell_of s r c))

  -- the cells of a row up to a column
  pub cells_bound : (r lo hi : ℕ) → length (joined lo hi (λ c. found rule d t s r c)) ≤ hi - lo
  cells_bound r lo hi =
      let e : (hi - lo) * 1 ≡ hi - lo = mul-one (hi - lo) in
      omega (arith, joined_bound 1 lo hi (λ c. found rule d t s r c) (λ c. found_one r c))

  pub row_bound : (r : ℕ) → length (row_of rule d t s r) ≤ t.width - border - border
  unfolding row_of
  row_bound r = cells_bound r border (t.width - border)

  -- the rows up to one
  pub rows_bound : (lo hi : ℕ) → length (joined lo hi (λ r. row_of rule d t s r)) ≤ (hi - lo) * (t.width - border - border)
  rows_bound lo hi = joined_bound (t.width - border - border) lo hi (λ r. row_of rule d t s r) (λ r. row_bound r)

  -- a picture too small for the border
  pub few_rows : t.height ≤ 2 * border → keypoints rule d t s ≡ []
  unfolding keypoints
  few_rows e = joined_none border (t.height - border) _ (omega arith)

  pub few_columns : t.width ≤ 2 * border → keypoints rule d t s ≡ []
  unfolding keypoints row_of
  few_columns e = joined_empty border (t.height - border) _ (λ r. joined_none border (t.width - border) _ (omega arith))
