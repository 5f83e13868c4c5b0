-- Each layer of a stack can be searched, and the keypoints of its search are the layer's. Assumes nothing.
use Prim.Native.Nat.{ℕ, ◌+◌, ◌<◌, ◌≤◌}
use mathlib.Core.Path.{◌≡◌, ◌∙◌}
use mathlib.Core.List.{List}
use lib.Ieee.{Float}
use Rattle.params.specs.declared.Settings.{Settings}
use Rattle.picture.specs.declared.Shape.{Shape}
use Rattle.detect_keypoint.specs.Search.{search_of}
use Rattle.detect_keypoint.specs.declared.Search.{Search}
use Rattle.detect_refine.specs.Place.{Searched}
use Rattle.detect_extrema.specs.Neighbours.{tied}
use Rattle.detect_extrema.specs.Scan.{keypoints}
use Rattle.detect.specs.Entry.{list_of}
use Rattle.audit_compare.specs.Standing.{Standing}
use Rattle.audit_keypoint.specs.Steps.{Given}
use Rattle.audit_walk.specs.Walk.{passed, Searchable}

pub layer_searched : (len : ℕ) (t : Shape) (layer octave : ℕ) (s : Settings) → Searchable len t octave s → 1 ≤ layer → layer < s.layers + 1 → Searched len t (search_of layer octave s)
layer_searched len t layer octave s q a b =
    record { whole = q.whole; wide = q.wide; high = q.high; planes = q.planes; many = q.many; low = q.low; first = a; last = b }

pub layer_passed : (gauss : List Float) (g : Given) (d : List Float) (t : Shape) (layer octave : ℕ) (s : Settings) (f : Search) (st x : Standing) → f ≡ search_of layer octave s → x ≡ passed gauss g st (keypoints tied d t f) →
    x ≡ passed gauss g st (list_of d t layer octave s)
layer_passed gauss g d t layer octave s f st x e p = p ∙ rw e
