-- Inner: what the code asks of a place and reads at it, no part of a public contract. Definitions only.
use Rattle.std.specs.Prelude.{ℕ, ◌+◌, ◌-◌, ◌*◌, ◌<◌, ◌≤◌, ◌≡◌, List, Float}
use Rattle.picture.specs.Stack.{sample}
use Rattle.picture.specs.declared.Shape.{Shape}
use Rattle.detect_fit.specs.declared.Near.{Near}

-- the list, `len` long, is a stack of that shape, and the 27 places about (p, r, c) lie in it
pub record Around (len : ℕ) (t : Shape) (p r c : ℕ) : Type 0 where
  pub whole : len ≡ t.planes * t.height * t.width
  pub before : 1 ≤ p
  pub after : p + 1 < t.planes
  pub above : 1 ≤ r
  pub below : r + 1 < t.height
  pub left : 1 ≤ c
  pub right : c + 1 < t.width

-- the same, and of (p, r, c) only the nine places of its plane
pub record Amid (len : ℕ) (t : Shape) (p r c : ℕ) : Type 0 where
  pub whole : len ≡ t.planes * t.height * t.width
  pub plane : p < t.planes
  pub above : 1 ≤ r
  pub below : r + 1 < t.height
  pub left : 1 ≤ c
  pub right : c + 1 < t.width

-- the sample at (p, r, c) and its four nearest in the plane
unfoldable pub near_of : List Float → Shape → ℕ → ℕ → ℕ → Near
near_of d t p r c =
    record {
      m = sample d t p r c;
      l = sample d t p r (c - 1);
      r = sample d t p r (c + 1);
      u = sample d t p (r - 1) c;
      d = sample d t p (r + 1) c;
    }
