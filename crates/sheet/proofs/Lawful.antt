-- Of a lawful layout: its slots fill whole bytes and hold their largest values; and that of each edition is one. Assumes nothing.
use mathlib.Core.Path.{◌≡◌, refl}
use mathlib.Core.Bool.{Bool, true, false, cond, and-eq-true_iff}
use mathlib.Core.List.{List, ◌∷◌}
use Prim.Native.Nat.{ℕ, zero, suc, ◌+◌, ◌-◌, ◌*◌, ◌^◌, ◌≤◌, ◌<◌}
use native.Mathlib.Omega.{arith}
use lib.Dec.{eqb, lit<}
use lib.ListN.{replicate}
use lib.Pow.{pow_pos, ones_lt}
use Rattle.params.specs.Limits.{max_side, max_layers, value_count}
use Rattle.sheet.specs.Pack.{Slot, slot, bits, sound, Held}
use Rattle.sheet.specs.Layout.{Layout, Frame, edition1, edition2, layout_of, header_size, mark_bits, header_slots, head_size, head_slots, record_size, largest_angle, value_slots, record_slots}
use Rattle.sheet.specs.Sheet.{record_right}
use Rattle.sheet.specs.Trip.{Lawful}
use Rattle.sheet.proofs.Packed.{Roomy, held}

-- what holds of each edition's layout holds of that of every number
pub by_edition : (P : Layout → Type 0) → P edition1 → P edition2 → (edition : ℕ) → P (layout_of edition)
unfolding layout_of
by_edition P one two edition = either (eqb edition 2)
  where
    either : (b : Bool) → P (cond b edition2 edition1)
    either true = two
    either false = one

pub lawful_edition : (edition : ℕ) → Lawful (layout_of edition)
lawful_edition = by_edition Lawful (record { edition = omega arith; side = omega arith }) (record { edition = omega arith; side = omega arith })

-- its records have an angle, and it states each side up to the limit, and none above
pub angled_edition : (edition : ℕ) → (layout_of edition).angled ≡ true
angled_edition = by_edition (λ l. l.angled ≡ true) refl refl

pub side_edition : (edition : ℕ) → 2 ^ (layout_of edition).side ≡ max_side
side_edition = by_edition (λ l. 2 ^ l.side ≡ max_side) refl refl

pub header_bits : (l : Layout) → Lawful l → bits (header_slots l) ≡ 8 * header_size
unfolding bits
header_bits l k = omega (arith, k.side)

pub head_bits : (l : Layout) (f : Frame) → Lawful l → bits (head_slots l f) ≡ 8 * head_size
unfolding bits
head_bits l f k = omega (arith, k.side)

tail_bits : (a : Bool) → bits (slot (cond a 32 0) 0 (cond a largest_angle 0) ∷ value_slots) + 176 ≡ 8 * cond a 154 150
unfolding bits
tail_bits true = refl
tail_bits false = refl

-- a record's slots fill its bytes
pub record_bits : (l : Layout) (f : Frame) → Lawful l → bits (record_slots l f) ≡ 8 * record_size l
unfolding bits record_slots
record_bits l f k = omega (arith, k.side, tail_bits l.angled)

roomy_replicate : (n : ℕ) (s : Slot) → s.high < 2 ^ s.width → Roomy (replicate n s)
roomy_replicate zero s h = tt
roomy_replicate (suc n) s h = (h, roomy_replicate n s h)

mark_roomy : (b : Bool) → cond b 1 0 < 2 ^ cond b 1 0
mark_roomy true = lit< tt
mark_roomy false = lit< tt

angle_roomy : (a : Bool) → cond a largest_angle 0 < 2 ^ cond a 32 0
angle_roomy true = lit< tt
angle_roomy false = lit< tt

pub header_roomy : (l : Layout) → Lawful l → Roomy (header_slots l)
header_roomy l k =
    (omega (arith, k.edition), (ones_lt l.side, (ones_lt l.side, (lit< tt, (lit< tt, (pow_pos (mark_bits l), (pow_pos (36 - (2 * l.side + mark_bits l)), tt)))))))

-- what a sound header says of its frame
pub record Framed (l : Layout) (f : Frame) : Type 0 where
  pub width : f.width - 1 < 2 ^ l.side
  pub height : f.height - 1 < 2 ^ l.side
  pub layers : f.layers ≤ max_layers

pub record_roomy : (l : Layout) (f : Frame) → Framed l f → Roomy (record_slots l f)
unfolding record_slots
record_roomy l f h = (
  h.height,
  (
    h.width,
    (
      lit< tt,
      (
        omega (arith, h.layers),
        (
          lit< tt,
          (
            mark_roomy l.marked,
            (
              pow_pos (32 - (2 * l.side + mark_bits l)),
              (lit< tt, (lit< tt, (lit< tt, (lit< tt, (angle_roomy l.angled, roomy_replicate value_count (slot 8 0 255) (lit< tt)))))),
            ),
          ),
        ),
      ),
    ),
  ),
)

-- a right record's values are in their slots' ranges, and so have room there
pub right_sound : (l : Layout) (f : Frame) (v : List ℕ) → record_right l f v ≡ true → sound (record_slots l f) v ≡ true
unfolding record_right
right_sound l f v e = ((and-eq-true_iff _ _).0 e).0

pub right_held : (l : Layout) (f : Frame) → Framed l f → (v : List ℕ) → record_right l f v ≡ true → Held (record_slots l f) v
right_held l f h v e = held (record_slots l f) v (record_roomy l f h) (right_sound l f v e)
