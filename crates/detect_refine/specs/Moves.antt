-- One step of the refinement, rules D8 to D11: the cell is lost, stays, or moves by the rounded offsets. Definitions only.
use Rattle.std.specs.Prelude.{ℕ, ◌+◌, ◌-◌, Bool, ◌&&◌, ◌||◌, cond, leb, ltb, ℤ, pos, negsuc, ◌+ℤ◌, Option, Some, None, Float}
use Rattle.ieee.specs.F32.{f32, ◌<ᶠ◌, ◌=ᶠ◌, abs_of}
use Rattle.ieee.specs.Numbers.{nought}
use Rattle.params.specs.Limits.{border}
use Rattle.picture.specs.declared.Shape.{Shape}
use Rattle.detect_fit.specs.Fit.{gradient_of, bend_of, det_of, offset_of}
use Rattle.detect_fit.specs.declared.Patch.{Patch}
use Rattle.detect_fit.specs.declared.Offset.{Offset}
use Rattle.detect_keypoint.specs.Offsets.{small, cv_round}
use Rattle.detect_keypoint.specs.declared.Cell.{Cell}
use Rattle.detect_refine.specs.declared.Step.{Step}
use Rattle.detect_refine.specs.declared.Step.TheVariants.{Lost, Stay, Go}

-- LIM, the f32 value of 715,827,882
abbrev pub limit : Float
limit = f32 0x4e2a_aaab

-- one of the three offsets is above the limit
unfoldable pub huge : Offset → Bool
huge o = (limit <ᶠ abs_of o.xi) || ((limit <ᶠ abs_of o.xr) || (limit <ᶠ abs_of o.xc))

-- u, where it lies from lo to below hi
unfoldable pub placed : ℕ → ℕ → ℤ → Option ℕ
placed lo hi (pos u) = cond (leb lo u && ltb u hi) (Some u) None
placed lo hi (negsuc u) = None

-- v moved by the rounded offset x; a not-a-number moves by 0
unfoldable pub moved : ℕ → ℕ → ℕ → Float → Option ℕ
moved lo hi v x = placed lo hi (pos v +ℤ cv_round x)

-- the step to the cell that a move comes to, if any
abbrev pub gone : Option Cell → Step
gone (Some k) = Go k
gone None = Lost

abbrev pub three : Option ℕ → Option ℕ → Option ℕ → Step
three (Some p) (Some r) (Some c) = Go (record { p = p; r = r; c = c })
three (Some p) (Some r) None = Lost
three (Some p) None m = Lost
three None l m = Lost

-- with the offset o: all small, it stays; one huge, it is lost; else it moves, and outside the layers 1 to `layers` or the border it is lost
unfoldable pub walk : Shape → ℕ → Cell → Offset → Step
walk t layers k o =
    cond (small o) (Stay o)
    (cond (huge o) Lost
    (three (moved 1 (layers + 1) k.p o.xi) (moved border (t.height - border) k.r o.xr) (moved border (t.width - border) k.c o.xc)))

-- a fit with this determinant has no offset: it is 0
abbrev pub singular : Float → Bool
singular det = det =ᶠ nought

-- such a cell is lost
unfoldable pub step_of : Shape → ℕ → Cell → Patch → Step
step_of t layers k patch =
    let det = det_of (bend_of patch) in
    cond (singular det) Lost (walk t layers k (offset_of (gradient_of patch) (bend_of patch) det))
