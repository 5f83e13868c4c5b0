-- From the tally of 36 bins to the angles of a keypoint, operation by operation as `assign_orientations` of the source (rules O7 to O11). Definitions only.
use Rattle.std.specs.Prelude.{ℕ, zero, suc, ◌+◌, ◌-◌, ◌%◌, Bool, ◌&&◌, cond, List, [], ◌∷◌, get_or, pos, Float}
use Rattle.std.specs.Float.{nan, binary32}
use Rattle.std.specs.Float.Ieee.{of_int, neg}
use Rattle.ieee.specs.F32.{◌⊕◌, ◌⊖◌, ◌⊗◌, ◌⊘◌, ◌<ᶠ◌, ◌≤ᶠ◌, f32, fused, abs_of}
use Rattle.ieee.specs.Numbers.{nought, half, two, ten, whole_turn, epsilon}
use Rattle.bounds.specs.Bounds.{greater_of}
use Rattle.lists.specs.Ranges.{joined}
use Rattle.orient_tally.specs.Sample.{bins}

-- what a circle of bins has k places after its first
unfoldable pub around : List Float → ℕ → Float
around b k = get_or b (k % bins) nan

-- 1/16, 4/16 and 6/16
abbrev pub outer : Float
outer = f32 0x3d80_0000

abbrev pub inner : Float
inner = f32 0x3e80_0000

abbrev pub middle : Float
middle = f32 0x3ec0_0000

-- smoothing about bin i, on the circle: rule O7
unfoldable pub smooth_at : List Float → ℕ → Float
smooth_at b i =
    fused (around b (i + bins - 2) ⊕ around b (i + 2)) outer
    (fused (around b (i + bins - 1) ⊕ around b (i + 1)) inner (around b i ⊗ middle))

unfoldable pub smoothed : List Float → List Float
smoothed b = joined 0 bins (λ i. smooth_at b i ∷ [])

-- the largest of the bins 0 to n, taken from left to right
unfoldable pub largest_to : List Float → ℕ → Float
largest_to h zero = get_or h 0 nan
largest_to h (suc n) = greater_of (largest_to h n) (get_or h (suc n) nan)

-- 0.8
abbrev pub ratio : Float
ratio = f32 0x3f4c_cccd

-- what a peak reaches at least: 0.8 of the largest
unfoldable pub least_of : List Float → Float
least_of h = largest_to h (bins - 1) ⊗ ratio

-- a peak, which is greater than both of its neighbours: rule O8
unfoldable pub is_peak : List Float → Float → ℕ → Bool
is_peak h least j =
    (around h (j + bins - 1) <ᶠ around h j) && ((around h (j + 1) <ᶠ around h j) && (least ≤ᶠ around h j))

-- 36, the bins as a float
abbrev pub circle : Float
circle = f32 0x4210_0000

-- the top of the parabola through the peak m at bin j and its neighbours l and r, in bins: rule O9
unfoldable pub crest_of : ℕ → Float → Float → Float → Float
crest_of j l m r = of_int binary32 (pos j) ⊕ half ⊗ (l ⊖ r) ⊘ (l ⊖ two ⊗ m ⊕ r)

-- brought back into the circle
unfoldable pub wrapped : Float → Float
wrapped b = cond (b <ᶠ nought) (circle ⊕ b) (cond (circle ≤ᶠ b) (b ⊖ circle) b)

-- a whole turn is no turn: rule O10
unfoldable pub closed : Float → Float
closed a = cond (abs_of (a ⊖ whole_turn) <ᶠ epsilon) nought a

-- 360 - 10 * b, fused
unfoldable pub degrees_of : Float → Float
degrees_of b = closed (fused (neg ten) b whole_turn)

-- the angle of the peak at bin j
unfoldable pub peak_angle : List Float → ℕ → Float
peak_angle h j = degrees_of (wrapped (crest_of j (around h (j + bins - 1)) (around h j) (around h (j + 1))))

-- what bin j gives: an angle where it is a peak, else nothing
unfoldable pub peak_of : List Float → Float → ℕ → List Float
peak_of h least j = cond (is_peak h least j) (peak_angle h j ∷ []) []

-- the angles of the smoothed bins' peaks, in the order of the bins; none where there is no peak: rule O11
unfoldable pub angles_in : List Float → List Float
angles_in h = joined 0 bins (peak_of h (least_of h))

-- the angles that a tally gives
unfoldable pub angles_of : List Float → List Float
angles_of b = angles_in (smoothed b)
