-- The places about a cell, by one index and two steps: from the corner, so many planes, rows and columns on. Assumes nothing.
use Prim.Native.Nat.{ℕ, ◌+◌, ◌-◌, ◌*◌, ◌<◌}
use mathlib.Core.Path.{◌≡◌}
use mathlib.Core.List.{List}
use native.Mathlib.Nat.{mul_assoc, add-mul}
use native.Mathlib.Omega.{arith}
use lib.ListN.{length, get_or}
use lib.Ieee.{Float, nan}
use Rattle.picture.specs.Picture.{pixel}
use Rattle.picture.specs.Stack.{sample}
use Rattle.picture.specs.Place.{Inside}
use Rattle.picture.specs.declared.Shape.{Shape}
use Rattle.picture.proofs.Index.{index}
use Rattle.detect_fit.specs.Place.{Around}

-- the index of the place i, j, k steps on from (p, r, c)
abbrev pub along : ℕ → ℕ → ℕ → ℕ → ℕ → ℕ → ℕ → ℕ → ℕ
along w h p r c i j k = (p * h + r) * w + c + i * (h * w) + j * w + k

spread : (w h p r c i j k : ℕ) → ((p + i) * h + (r + j)) * w + (c + k) ≡ along w h p r c i j k
spread w h p r c i j k =
    simp (add-mul, mul_assoc) (omega arith)

module _ {len : ℕ} {t : Shape} {p r c : ℕ} (s : Around len t p r c) where
  abbrev w : ℕ
  w = t.width

  abbrev h : ℕ
  h = t.height

  module _ (i j k : ℕ) (a : i < 3) (b : j < 3) (e : k < 3) where
    near : Inside len t (p + i - 1) (r + j - 1) (c + k - 1)
    near = record { whole = s.whole; plane = omega arith; row = omega arith; column = omega arith }

    pub near_is : (p + i - 1 ≡ p - 1 + i) × (r + j - 1 ≡ r - 1 + j) × (c + k - 1 ≡ c - 1 + k)
    near_is = omega arith

    pub near_index : ((p + i - 1) * h + (r + j - 1)) * w + (c + k - 1) ≡ along w h (p - 1) (r - 1) (c - 1) i j k
    near_index = rw (near_is.0, near_is.1, near_is.2) (spread w h (p - 1) (r - 1) (c - 1) i j k)

    pub near_below : along w h (p - 1) (r - 1) (c - 1) i j k < len
    near_below = omega (arith, near_index, (index near).below)

-- what is read there is the sample of the definition
pub near_sample : (d : List Float) (t : Shape) (p r c i j k : ℕ) → Around (length d) t p r c → i < 3 → j < 3 → k < 3
    → get_or d (along t.width t.height (p - 1) (r - 1) (c - 1) i j k) nan ≡ sample d t (p + i - 1) (r + j - 1) (c + k - 1)
unfolding sample pixel
near_sample d t p r c i j k s a b e = rw (near_index s i j k a b e)
