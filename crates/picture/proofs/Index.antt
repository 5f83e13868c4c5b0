-- The index of a place lies below the length, and no step of working it out wraps. Assumes nothing.
use Prim.Native.Nat.{ℕ, ◌+◌, ◌*◌, ◌<◌, ◌≤◌}
use native.Mathlib.Nat.{le-mul_of_pos_right}
use native.Mathlib.Omega.{arith}
use Rattle.lists.proofs.Naturals.{packed}
use Rattle.picture.specs.Place.{Inside, Within}
use Rattle.picture.specs.declared.Shape.{Shape}
use Rattle.picture.specs.declared.Size.{Size}

pub record Index (len w h p r c : ℕ) : Type 0 where
  pub low : p * h ≤ (p * h + r) * w
  pub mid : p * h + r ≤ (p * h + r) * w
  pub below : (p * h + r) * w + c < len

pub index : {len : ℕ} {t : Shape} {p r c : ℕ} → Inside len t p r c → Index len t.width t.height p r c
index {len} {t} {p} {r} {c} s =
    let w = t.width in
    let h = t.height in
    let m = le-mul_of_pos_right {m = w} (p * h + r) (omega arith) in
    record {
      low = omega arith;
      mid = m;
      below = omega (arith, packed {m = t.planes * h} {w = w} (packed {q = p} {c = r} s.plane s.row) s.column);
    }

-- the place of a cell of a picture
pub record Spot (len w r c : ℕ) : Type 0 where
  pub low : r ≤ r * w
  pub below : r * w + c < len

pub spot : {len : ℕ} {s : Size} {r c : ℕ} → Within len s r c → Spot len s.width r c
spot {len} {s} {r} {c} a =
    record {
      low = le-mul_of_pos_right {m = s.width} r (omega arith);
      below = omega (arith, packed {q = r} {m = s.height} {c = c} {w = s.width} a.row a.column);
    }
