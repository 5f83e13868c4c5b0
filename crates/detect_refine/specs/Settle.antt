-- Where a candidate settles, and what it gives there: rules D12 and D17. Definitions only.
use Rattle.std.specs.Prelude.{ℕ, zero, suc, ◌+◌, ◌||◌, cond, List, Option, Some, None, Float}
use Rattle.params.specs.Limits.{max_moves}
use Rattle.picture.specs.declared.Shape.{Shape}
use Rattle.detect_fit.specs.Fit.{patch_of}
use Rattle.detect_fit.specs.declared.Patch.{Patch}
use Rattle.detect_fit.specs.declared.Offset.{Offset}
use Rattle.detect_keypoint.specs.Keypoint.{contrast_of, dim, edgy, keypoint_of}
use Rattle.detect_keypoint.specs.declared.Cell.{Cell}
use Rattle.detect_keypoint.specs.declared.Search.{Search}
use Rattle.detect_keypoint.specs.declared.RawKeypoint.{RawKeypoint}
use Rattle.detect_refine.specs.Moves.{step_of}
use Rattle.detect_refine.specs.declared.Step.{Step}
use Rattle.detect_refine.specs.declared.Step.TheVariants.{Lost, Stay, Go}

-- what a settled cell gives: dropped by its contrast or its edge, or the keypoint
unfoldable pub ended : Search → ℕ → Cell → Patch → Offset → Option RawKeypoint
ended s moves k patch o =
    cond (dim s.settings (contrast_of patch o) || edgy s.settings patch) None (Some (keypoint_of s moves k patch o))

abbrev pub on_step : Step → Option RawKeypoint → (Offset → Option RawKeypoint) → (Cell → Option RawKeypoint) → Option RawKeypoint
on_step Lost lost stay go = lost
on_step (Stay o) lost stay go = stay o
on_step (Go k) lost stay go = go k

-- the samples about a cell
abbrev pub patch_at : List Float → Shape → Cell → Patch
patch_at d t k = patch_of d t k.p k.r k.c

-- where a candidate settles with so many moves left, after so many made; dropped when none is left
unfoldable pub settle_from : List Float → Shape → Search → ℕ → ℕ → Cell → Option RawKeypoint
settle_from d t s zero moves k = None
settle_from d t s (suc left) moves k =
    on_step (step_of t s.settings.layers k (patch_at d t k))
    None
    (λ o. ended s moves k (patch_at d t k) o)
    (λ k'. settle_from d t s left (moves + 1) k')

-- the refinement of the candidate at the cell k
unfoldable pub refine_of : List Float → Shape → Search → Cell → Option RawKeypoint
refine_of d t s k = settle_from d t s max_moves 0 k
