-- Inner: what the code asks of the planes, of the bytes of a sheet's records and of a task; no part of a public contract. Definitions only.
use Rattle.std.specs.Prelude.{ℕ, ◌+◌, ◌*◌, ◌≤◌, ◌≡◌}
use Rattle.params.specs.Limits.{max_side, max_planes, max_octave}
use Rattle.sheet.specs.Layout.{record_size}
use Rattle.sheet_edition.specs.Edition.{layout_for}
use Rattle.audit_keypoint.specs.Pictures.{plane_size}
use Rattle.audit_keypoint.specs.declared.Task.{Task}

-- the bytes, `len` of them, have so many records of the edition, and the octave is within its limit
pub record Stated (len : ℕ) (k : Task) : Type 0 where
  pub records : record_size (layout_for k.edition) * k.count ≤ len
  pub low : k.octave ≤ max_octave

-- there are `len` Gaussian samples: one plane more than the shape has, within the limits
pub record Pictured (len : ℕ) (k : Task) : Type 0 where
  pub whole : len ≡ (k.shape.planes + 1) * plane_size k.shape
  pub wide : k.shape.width ≤ max_side
  pub high : k.shape.height ≤ max_side
  pub deep : k.shape.planes ≤ max_planes
