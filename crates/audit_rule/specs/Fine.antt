-- Inner: what the code asks of a call whose form is not refused; no part of a public contract. Definitions only.
use Rattle.std.specs.Prelude.{ℕ, ◌+◌, ◌*◌, ◌≤◌, ◌≡◌, false}
use Rattle.params.specs.Limits.{max_side, max_planes}
use Rattle.params.specs.Table.{shape_wrong, settings_wrong}
use Rattle.params.specs.declared.Settings.{Settings}
use Rattle.picture.specs.declared.Shape.{Shape}
use Rattle.picture.specs.declared.Size.{Size}
use Rattle.audit_walk.specs.Walk.{Searchable}

pub record Fine (dogs gausses : ℕ) (t : Shape) (octave : ℕ) (s : Settings) (base : Size) : Type 0 where
  pub shape : shape_wrong t.width t.height ≡ false
  pub layers : 1 ≤ s.layers
  pub planes : t.planes ≤ max_planes
  pub settings : settings_wrong s octave ≡ false
  pub searchable : Searchable dogs t octave s
  pub pictures : gausses ≡ (t.planes + 1) * (t.height * t.width)
  pub across : (1 ≤ base.width) × (base.width ≤ max_side)
  pub down : (1 ≤ base.height) × (base.height ≤ max_side)
