-- Inner: where a region's keypoints are looked for: among all positions, or among those of a run that a lent list holds. Definitions only.
use Rattle.std.specs.Prelude.{ℕ, suc, ◌≤◌, ◌<◌, ◌≡◌, Bool, true, false, cond, ◌&&◌, List, length, get_or}
use Rattle.counts.specs.Counts.{counted}
use Rattle.thin_rule.specs.Rule.{points_in, inside, quarter}
use Rattle.thin_rule.specs.Strength.{strength}
use Rattle.thin_rule.specs.declared.Region.{Region}
use Rattle.thin_part.specs.Runs.{Beside}
use Rattle.thin_source.specs.declared.Source.{Source}
use Rattle.thin_source.specs.declared.Source.TheVariants.{All, Held}
use Rattle.thin_source.specs.declared.Reach.{Reach}

-- whether all positions are looked at, and the places of a source
abbrev pub is_all : Source → Bool
is_all (All a b) = true
is_all (Held a b) = false

abbrev pub from_of : Source → ℕ
from_of (All a b) = a
from_of (Held a b) = a

abbrev pub to_of : Source → ℕ
to_of (All a b) = b
to_of (Held a b) = b

-- a candidate: a place is the position itself, or holds it
unfoldable pub candidate : Bool → List ℕ → ℕ → ℕ
candidate all s k = cond all k (get_or s k 0)

-- how many candidates pass the test
abbrev pub found : List ℕ → Source → (ℕ → Bool) → ℕ
found s c test = counted (from_of c) (to_of c) (λ k. test (candidate (is_all c) s k))

-- each is a position of the list, and there is what is read
pub record Stands (n : ℕ) (s : List ℕ) (c : Source) : Type 0 where
  pub order : from_of c ≤ to_of c
  pub room : is_all c ≡ false → to_of c ≤ length s
  pub each : (k : ℕ) → from_of c ≤ k → k < to_of c → candidate (is_all c) s k < n

-- among them are the region's keypoints, each once
pub record Covers (ws : List ℕ) (r : Region) (s : List ℕ) (c : Source) : Type 0 where
  pub stands : Stands (points_in ws) s c
  pub each : (g : ℕ → Bool) → found s c (λ p. inside ws r p && g p) ≡ counted 0 (points_in ws) (λ i. inside ws r i && g i)

-- every strength of the list lies in the reach
pub record Reaches (ws : List ℕ) (h : Reach) : Type 0 where
  pub low : (i : ℕ) → i < points_in ws → h.low ≤ strength ws i
  pub high : (i : ℕ) → i < points_in ws → strength ws i ≤ h.high

-- ---- a run that is parted in four, one part for each quarter

-- the part k begins at the bound k, and ends at the next
abbrev pub bound_of : List ℕ → ℕ → ℕ
bound_of b k = get_or b k 0

-- the source of the quarter k: its part of the run; and all positions where its region has all
unfoldable pub source_of : Source → List ℕ → ℕ → Source
source_of c b k = cond (is_all c) c (Held (bound_of b k) (bound_of b (suc k)))

pub record Split (ws : List ℕ) (r : Region) (s t : List ℕ) (c : Source) (b : List ℕ) : Type 0 where
  pub covers : (k : ℕ) → k < 4 → Covers ws (quarter r k) t (source_of c b k)
  pub ends : is_all c ≡ false → (bound_of b 0 ≡ from_of c) × (bound_of b 4 ≡ to_of c)
  pub order : is_all c ≡ false → (k : ℕ) → k < 4 → bound_of b k ≤ bound_of b (suc k)
  pub beside : is_all c ≡ false → Beside s t (from_of c) (to_of c)
