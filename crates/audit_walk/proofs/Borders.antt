-- A layer with a side no longer than its two borders has no keypoints, and any other has cells to search. Assumes nothing.
use Prim.Native.Nat.{ℕ, ◌*◌, ◌<◌}
use mathlib.Core.Path.{◌≡◌}
use mathlib.Core.Bool.{true, false, ◌||◌}
use mathlib.Core.Logic.{⊎_elim}
use mathlib.Core.List.{List, []}
use native.Mathlib.Omega.{arith}
use borrow.Author.Tests.{leb-true, leb-false}
use lib.Dec.{leb}
use lib.Ieee.{Float}
use Rattle.lists.proofs.Bools.{or_cases}
use Rattle.lists.proofs.Ranges.{joined_none, joined_empty}
use Rattle.params.specs.Limits.{border}
use Rattle.params.proofs.Bools.{or_neither}
use Rattle.picture.specs.declared.Shape.{Shape}
use Rattle.detect_keypoint.specs.declared.Search.{Search}
use Rattle.detect_extrema.specs.Neighbours.{tied}
use Rattle.detect_extrema.specs.Scan.{found, row_of, keypoints}

module _ (d : List Float) (t : Shape) (s : Search) where
  pub bare : (leb t.width (2 * border) || leb t.height (2 * border)) ≡ true → keypoints tied d t s ≡ []
  unfolding keypoints row_of
  bare e =
      ⊎_elim
      (λ w. let l = leb-true t.width (2 * border) w in joined_empty border _ _ (λ r. joined_none border _ (λ c. found tied d t s r c) (omega arith)))
      (λ h. let l = leb-true t.height (2 * border) h in joined_none border _ _ (omega arith))
      (or_cases (leb t.width (2 * border)) (leb t.height (2 * border)) e)

pub inner : (w h : ℕ) → (leb w (2 * border) || leb h (2 * border)) ≡ false → (2 * border < w) × (2 * border < h)
inner w h e = let p = or_neither (leb w (2 * border)) (leb h (2 * border)) e in (leb-false w (2 * border) p.0, leb-false h (2 * border) p.1)
