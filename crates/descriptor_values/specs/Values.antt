-- From the histogram to the 128 values (rules P13 to P17): folded, normed, clamped, scaled and rounded, as the tail of `compute_descriptor` of the source. Definitions only.
use Rattle.std.specs.Prelude.{ℕ, zero, suc, ◌+◌, ◌*◌, ◌/◌, ◌%◌, cond, List, [], ◌∷◌, eqb, get_or, Float}
use Rattle.std.specs.Float.{nan}
use Rattle.ieee.specs.F32.{◌⊕◌, ◌⊗◌, ◌⊘◌, f32, fused, root_of, rounded}
use Rattle.ieee.specs.Numbers.{nought, epsilon, top_byte}
use Rattle.lists.specs.Ranges.{joined}
use Rattle.bounds.specs.Bounds.{max_of, min_of, clamp_of}
use Rattle.params.specs.Limits.{value_count}
use Rattle.descriptor_values.specs.Places.{bins, place}

-- DESCR_MAG_THR = 0.2, INT_DESCR_FCTR = 512
abbrev pub clamp_ratio : Float
clamp_ratio = f32 0x3e4c_cccd

abbrev pub factor : Float
factor = f32 0x4400_0000

-- slot k of the inner cell at row i, column j, each 0 to 3; the first slot takes the ninth (rule P13)
unfoldable pub folded_at : List Float → ℕ → ℕ → ℕ → Float
folded_at h i j k =
    let at = place (i + 1) (j + 1) 0 in
    cond (eqb k 0) (get_or h at nan ⊕ get_or h (at + bins) nan) (get_or h (at + k) nan)

-- a list of values, each by its number
abbrev pub listed : (ℕ → Float) → List Float
listed f = joined 0 value_count (λ n. f n ∷ [])

unfoldable pub raw_of : List Float → List Float
raw_of h = listed (λ n. folded_at h (n / 32) (n / 8 % 4) (n % 8))

abbrev pub at : List Float → ℕ → Float
at v n = get_or v n nan

-- the fused sum of the squares of every fourth value from l on, n of them
unfoldable pub lane : List Float → ℕ → ℕ → Float
lane v l zero = nought
lane v l (suc n) = fused (at v (4 * n + l)) (at v (4 * n + l)) (lane v l n)

-- the norm (rule P14): four fused sums, (first + second) + (third + fourth)
unfoldable pub norm2 : List Float → Float
norm2 v = (lane v 0 32 ⊕ lane v 1 32) ⊕ (lane v 2 32 ⊕ lane v 3 32)

-- each value held to 0.2 of the norm's root (rule P15)
unfoldable pub clamped : List Float → List Float
clamped v = let limit = root_of (norm2 v) ⊗ clamp_ratio in listed (λ n. min_of (at v n) limit)

-- the second norm, of the held values, is plain (rule P16)
unfoldable pub plain_norm : List Float → ℕ → Float
plain_norm v zero = nought
plain_norm v (suc n) = plain_norm v n ⊕ at v n ⊗ at v n

-- 512 over the larger of the root and f32 epsilon
unfoldable pub scale_of : List Float → Float
scale_of v = factor ⊘ max_of (root_of (plain_norm v value_count)) epsilon

-- rounded, and held in 0 to 255 (rule P17)
unfoldable pub finished : List Float → List Float
finished v = let scale = scale_of v in listed (λ n. clamp_of (rounded (at v n ⊗ scale)) nought top_byte)

-- the 128 values of a histogram
unfoldable pub values_of : List Float → List Float
values_of h = finished (clamped (raw_of h))
