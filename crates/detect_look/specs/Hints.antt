-- Inner: a first look at a cell, which every candidate passes. It decides nothing, and spares the search among all neighbours for most cells; no part of a public contract.
-- Definitions only.
use Rattle.std.specs.Prelude.{ℕ, ◌+◌, ◌-◌, ◌<◌, ◌≤◌, ◌≡◌, Bool, true, false, ◌&&◌, ◌||◌, not, cond, List, [], ◌∷◌, Float}
use Rattle.std.specs.Float.Ieee.{neg}
use Rattle.ieee.specs.F32.{◌<ᶠ◌}
use Rattle.bounds.specs.Bounds.{greater_of, lesser_of}
use Rattle.lists.specs.Ranges.{every, joined}
use Rattle.picture.specs.Stack.{sample}
use Rattle.picture.specs.declared.Shape.{Shape}
use Rattle.detect_fit.specs.declared.Near.{Near}
use Rattle.detect_keypoint.specs.declared.Search.{Search}
use Rattle.detect_extrema.specs.Neighbours.{tied, keeps_as}

-- what a selection leaves of the four nearest neighbours in the plane, one before and one after
unfoldable pub of_six : (Float → Float → Float) → Near → Float → Float → Float
of_six pick n before after = pick (pick n.l n.r) (pick (pick n.u n.d) (pick before after))

-- what a function of the code leaves of each two is what `choose` says
abbrev pub Picks : (Float → Float → Float → Type 0) → (Float → Float → Float) → Type 0
Picks Leaves choose = (a b x : Float) → Leaves a b x → x ≡ choose a b

-- what a selection leaves of the six nearest neighbours: left and right, above and below, in the plane before and after
unfoldable pub of_near : (Float → Float → Float) → List Float → Shape → ℕ → ℕ → ℕ → Float
of_near pick d t p r c =
    pick
    (pick (sample d t p r (c - 1)) (sample d t p r (c + 1)))
    (pick (pick (sample d t p (r - 1) c) (sample d t p (r + 1) c)) (pick (sample d t (p - 1) r c) (sample d t (p + 1) r c)))

abbrev pub greatest_near : List Float → Shape → ℕ → ℕ → ℕ → Float
greatest_near d t p r c = of_near greater_of d t p r c

abbrev pub least_near : List Float → Shape → ℕ → ℕ → ℕ → Float
least_near d t p r c = of_near lesser_of d t p r c

-- the cell (p, r, c) is above the threshold and stands as the larger beside the greatest of the six, or below its negative and as the smaller beside the least
unfoldable pub hint_at : Float → List Float → Shape → ℕ → ℕ → ℕ → Bool
hint_at threshold d t p r c =
    let v = sample d t p r c in
    ((threshold <ᶠ v) && keeps_as tied true v (greatest_near d t p r c)) || ((v <ᶠ neg threshold) && keeps_as tied false v (least_near d t p r c))

-- some number from lo to below hi passes the test: not every one of them fails
unfoldable pub some_cell : ℕ → ℕ → (ℕ → Bool) → Bool
some_cell lo hi test = not (every (hi - lo) (λ i. not (test (lo + i))))

-- what a test of the code answers of each number from lo to below hi is what p says
abbrev pub Tells : (ℕ → Bool → Type 0) → ℕ → ℕ → (ℕ → Bool) → Type 0
Tells Answers lo hi p = (c : ℕ) → lo ≤ c → c < hi → (b : Bool) → Answers c b → b ≡ p c

-- above the threshold, or below its negative, as every loud cell is
abbrev pub beyond : Float → Float → Bool
beyond threshold v = (threshold <ᶠ v) || (v <ᶠ neg threshold)

-- some cell of the row r, from column lo to below hi, is beyond the threshold
unfoldable pub any_loud : List Float → Shape → Search → ℕ → ℕ → ℕ → Bool
any_loud d t s r lo hi = some_cell lo hi (λ c. beyond s.threshold (sample d t s.layer r c))

-- some cell of them has a hint
unfoldable pub any_hint : List Float → Shape → Search → ℕ → ℕ → ℕ → Bool
any_hint d t s r lo hi = some_cell lo hi (λ c. hint_at s.threshold d t s.layer r c)

-- the first look at these cells, from left to right
unfoldable pub looks : List Float → Shape → Search → ℕ → ℕ → ℕ → List Bool
looks d t s r lo hi = joined lo hi (λ c. hint_at s.threshold d t s.layer r c ∷ [])

-- the columns of those that have a hint
unfoldable pub hinted : List Float → Shape → Search → ℕ → ℕ → ℕ → List ℕ
hinted d t s r lo hi = joined lo hi (λ c. cond (hint_at s.threshold d t s.layer r c) (c ∷ []) [])
