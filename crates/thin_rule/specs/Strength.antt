-- Inner: one number for a keypoint's response and its position, by which the best are found; and a region's edges as bits, between which x and y are found. Definitions only.
use Rattle.std.specs.Prelude.{ℕ, ◌+◌, ◌-◌, ◌*◌, ◌^◌, ◌<◌, ◌≤◌, ◌≡◌, Bool, true, ◌&&◌, List, leb, ltb}
use Rattle.std.specs.Float.Ieee.Scale.{finite}
use Rattle.ieee.specs.F32.{float, bits_of}
use Rattle.params.specs.Limits.{max_side, max_keypoints}
use Rattle.thin_order.specs.Place.{place, bare, Upward}
use Rattle.thin_rule.specs.Rule.{points_in, word_at, response_of, inside}
use Rattle.thin_rule.specs.declared.Region.{Region}
use Rattle.thin_rule.specs.declared.Edges.{Edges}

-- larger for a larger response, and of equal responses larger for the earlier position
unfoldable pub strength : List ℕ → ℕ → ℕ
strength ws i = place (word_at ws i 3) * 2 ^ 32 + (2 ^ 32 - 1 - i)

-- a keypoint of the region that is at least so strong
unfoldable pub strong : List ℕ → Region → ℕ → ℕ → Bool
strong ws r t i = inside ws r i && leb t (strength ws i)

-- a whole number as the bits of its float, and the region's edges as such
abbrev pub edge_at : ℕ → ℕ
edge_at n = bare (bits_of (float n))

abbrev pub edges_of : Region → Edges
edges_of r = record { left = edge_at r.left; right = edge_at r.right; top = edge_at r.top; bottom = edge_at r.bottom }

-- the bits lie from one edge to below the other
abbrev pub amid : ℕ → ℕ → ℕ → Bool
amid a b w = leb a (bare w) && ltb (bare w) b

unfoldable pub edged : List ℕ → Edges → ℕ → Bool
edged ws e i = amid e.left e.right (word_at ws i 0) && amid e.top e.bottom (word_at ws i 1)

-- a region whose edges stand in their order, within the largest frame
pub record Ordered (r : Region) : Type 0 where
  pub across : r.left ≤ r.right
  pub right : r.right ≤ max_side
  pub down : r.top ≤ r.bottom
  pub bottom : r.bottom ≤ max_side

-- a list that has a number of 32 bits for each position, x and y not below zero, and finite responses
pub record Sound (ws : List ℕ) : Type 0 where
  pub few : points_in ws ≤ max_keypoints
  pub x : (i : ℕ) → i < points_in ws → Upward (word_at ws i 0)
  pub y : (i : ℕ) → i < points_in ws → Upward (word_at ws i 1)
  pub words : (i : ℕ) → i < points_in ws → word_at ws i 3 < 2 ^ 32
  pub numbers : (i : ℕ) → i < points_in ws → finite (response_of ws i) ≡ true
