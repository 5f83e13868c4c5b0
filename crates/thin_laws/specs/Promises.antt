-- Law: what is proved of the kept positions, beyond the entry's contract: rule T8. `proofs/Promises.antt` proves each. Definitions only.
use Rattle.std.specs.Prelude.{ℕ, suc, ◌≤◌, ◌<◌, ◌≡◌, true, ◌&&◌, List, length, get_or}
use Rattle.ieee_laws.specs.Sign.{Same}
use Rattle.counts.specs.Counts.{counted}
use Rattle.thin_rule.specs.Rule.{points_in, x_of, y_of, response_of, inside, many, quarter, share, keeps, kept}
use Rattle.thin_rule.specs.Strength.{Ordered, Sound}
use Rattle.thin_rule.specs.declared.Region.{Region}

-- two lists of equally many keypoints, whose x, y and responses are equal as numbers
pub record Agree (ws vs : List ℕ) : Type 0 where
  pub many : points_in ws ≡ points_in vs
  pub x : (i : ℕ) → i < points_in ws → Same (x_of ws i) (x_of vs i)
  pub y : (i : ℕ) → i < points_in ws → Same (y_of ws i) (y_of vs i)
  pub response : (i : ℕ) → i < points_in ws → Same (response_of ws i) (response_of vs i)

pub record CoverRule : Type 0 where
  -- no more are kept than the quota
  pub few : (ws : List ℕ) (d : ℕ) (r : Region) (q : ℕ) → Sound ws → Ordered r → length (kept ws d r q) ≤ q
  -- they are positions of the list, and strictly ascend
  pub listed : (ws : List ℕ) (d : ℕ) (r : Region) (q i : ℕ) → i < length (kept ws d r q) → get_or (kept ws d r q) i 0 < points_in ws
  pub ascending : (ws : List ℕ) (d : ℕ) (r : Region) (q i j : ℕ) → i < j → j < length (kept ws d r q) → get_or (kept ws d r q) i 0 < get_or (kept ws d r q) j 0
  -- a region within its quota keeps every keypoint that it has
  pub whole : (ws : List ℕ) (d : ℕ) (r : Region) (q i : ℕ) → many ws r ≤ q → inside ws r i ≡ true → keeps ws d r q i ≡ true
  -- of a region above its quota, which is cut, every quarter keeps no more than its share
  pub shares : (ws : List ℕ) (d : ℕ) (r : Region) (q k : ℕ) → Sound ws → Ordered r → q < many ws r → 4 ≤ q → k < 4
      → counted 0 (points_in ws) (λ i. keeps ws (suc d) r q i && inside ws (quarter r k) i) ≤ share q k
  -- lists that agree as numbers are thinned to the same positions
  pub alike : (ws vs : List ℕ) (d : ℕ) (r : Region) (q : ℕ) → Agree ws vs → kept ws d r q ≡ kept vs d r q
