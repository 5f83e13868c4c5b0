-- Inner: how far the records agree after keypoints one after the other, and what the code asks of a stack; no part of a public contract. Definitions only.
use Rattle.std.specs.Prelude.{ℕ, ◌+◌, ◌*◌, ◌≤◌, ◌≡◌, false, Float}
use mathlib.Core.List.{List, foldl, map}
use Rattle.lists.specs.Ranges.{joined}
use Rattle.params.specs.Limits.{max_side, max_layers, max_octave}
use Rattle.params.specs.Table.{contrast_wrong}
use Rattle.params.specs.declared.Settings.{Settings}
use Rattle.picture.specs.declared.Shape.{Shape}
use Rattle.detect_keypoint.specs.declared.RawKeypoint.{RawKeypoint}
use Rattle.detect_extrema.specs.Scan.{words_of}
use Rattle.detect.specs.Entry.{list_of}
use Rattle.audit_compare.specs.Standing.{Standing}
use Rattle.audit_keypoint.specs.Steps.{Given, keypoint_step}

-- after the keypoints of a list
unfoldable pub passed : List Float → Given → Standing → List RawKeypoint → Standing
passed gauss g st ks = foldl (keypoint_step gauss g) st (map words_of ks)

-- the keypoints of an octave, by the layer searched
abbrev pub octave_found : List Float → Shape → ℕ → Settings → List RawKeypoint
octave_found d t octave s = joined 1 (s.layers + 1) (λ layer. list_of d t layer octave s)

-- the list, `len` long, is a stack of that shape, and each of the layers can be searched
pub record Searchable (len : ℕ) (t : Shape) (octave : ℕ) (s : Settings) : Type 0 where
  pub whole : len ≡ t.planes * t.height * t.width
  pub wide : t.width ≤ max_side
  pub high : t.height ≤ max_side
  pub planes : s.layers + 2 ≤ t.planes
  pub many : s.layers ≤ max_layers
  pub low : octave ≤ max_octave
  pub contrast : contrast_wrong s.contrast ≡ false
