-- Inner: what the code asks of a stack, a search and a cell, no part of a public contract. Definitions only.
use Rattle.std.specs.Prelude.{ℕ, ◌+◌, ◌-◌, ◌*◌, ◌<◌, ◌≤◌, ◌≡◌}
use Rattle.params.specs.Limits.{border, max_side, max_layers, max_octave}
use Rattle.picture.specs.declared.Shape.{Shape}
use Rattle.detect_keypoint.specs.declared.Cell.{Cell}
use Rattle.detect_keypoint.specs.declared.Search.{Search}

-- the list, `len` long, is a stack of that shape within the limits, the layer searched is one of its layers, and the octave is within its limit
pub record Searched (len : ℕ) (t : Shape) (s : Search) : Type 0 where
  pub whole : len ≡ t.planes * t.height * t.width
  pub wide : t.width ≤ max_side
  pub high : t.height ≤ max_side
  pub planes : s.settings.layers + 2 ≤ t.planes
  pub many : s.settings.layers ≤ max_layers
  pub low : s.octave ≤ max_octave
  pub first : 1 ≤ s.layer
  pub last : s.layer < s.settings.layers + 1

-- the cell is in one of the layers, and at least the border from the edges
pub record Placed (t : Shape) (layers : ℕ) (k : Cell) : Type 0 where
  pub first : 1 ≤ k.p
  pub last : k.p < layers + 1
  pub top : border ≤ k.r
  pub bottom : k.r < t.height - border
  pub start : border ≤ k.c
  pub end : k.c < t.width - border
