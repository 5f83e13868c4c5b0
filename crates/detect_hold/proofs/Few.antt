-- How many keypoints a layer can have: one for each cell that is searched. Assumes nothing.
use Prim.Native.Nat.{ℕ, ◌-◌, ◌*◌, ◌≤◌}
use mathlib.Core.Path.{◌≡◌}
use mathlib.Core.List.{List}
use native.Mathlib.Nat.{mul_comm, mul-le-mul, le_trans}
use native.Mathlib.Omega.{arith}
use lib.ListN.{length}
use lib.Ieee.{Float}
use Rattle.params.specs.Limits.{border, max_side}
use Rattle.picture.specs.declared.Shape.{Shape}
use Rattle.detect_refine.specs.Place.{Searched}
use Rattle.detect_keypoint.specs.declared.Search.{Search}
use Rattle.detect_extrema.specs.Neighbours.{tied}
use Rattle.detect_extrema.specs.Scan.{keypoints}
use Rattle.detect_extrema.proofs.Rows.{rows_bound}

module _ (d : List Float) (t : Shape) (s : Search) where
  pub few_cells : length (keypoints tied d t s) ≤ (t.width - 2 * border) * (t.height - 2 * border)
  unfolding keypoints
  few_cells =
      let a : t.width - border - border ≡ t.width - 2 * border = omega arith in
      let b : t.height - border - border ≡ t.height - 2 * border = omega arith in
      rw (mul_comm (t.width - 2 * border) (t.height - 2 * border), ← a, ← b) (rows_bound tied d t s border (t.height - border))

  -- few enough to number their words
  module _ (len : ℕ) (q : Searched len t s) where
    pub cells_few : (t.width - 2 * border) * (t.height - 2 * border) ≤ max_side * max_side
    cells_few =
        mul-le-mul {n₁ = t.width - 2 * border} {m₁ = t.height - 2 * border} {n₂ = max_side} {m₂ = max_side} (omega (arith, q.wide)) (omega (arith, q.high))

    pub keypoints_few : length (keypoints tied d t s) ≤ max_side * max_side
    keypoints_few = le_trans few_cells cells_few
