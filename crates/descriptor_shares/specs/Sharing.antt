-- How a sample is shared out: its row, column and slot of the grid, and its eight shares (rules P9 to P11). Operation by operation as `scatter` of the source. Definitions only.
use Rattle.std.specs.Prelude.{ℕ, ◌+◌, ◌-◌, cond, leb, ℤ, pos, negsuc, ◌-ℤ◌, Float}
use Rattle.ieee.specs.F32.{◌⊖◌, ◌⊗◌, ◌<ᶠ◌, f32, to_i32, float_z}
use Rattle.hal.specs.Exp.{exp_of}
use Rattle.hal_angle.specs.Angle.{angle_of}
use Rattle.hal_magnitude.specs.Magnitude.{magnitude_of}
use Rattle.descriptor_values.specs.Places.{bins}
use Rattle.descriptor_patch.specs.declared.Sample.{Sample}
use Rattle.descriptor_shares.specs.declared.Shares.{Shares}
use Rattle.descriptor_shares.specs.declared.Spread.{Spread}

-- 8 / 360
abbrev pub bins_per_degree : Float
bins_per_degree = f32 0x3cb6_0b61

-- `floor_i` (rule P10): cut, and one less where that is above
unfoldable pub floor_i : Float → ℤ
floor_i v = cond (v <ᶠ float_z (to_i32 v)) (to_i32 v -ℤ pos 1) (to_i32 v)

-- the slot of a turn, -8 to 8, brought into 0 to 7
unfoldable pub slot_of : ℤ → ℕ
slot_of (pos n) = cond (leb bins n) (n - bins) n
slot_of (negsuc n) = bins - (n + 1)

-- a row or column of the grid, from -1, as the cells count it
unfoldable pub from_border : ℤ → ℕ
from_border (pos n) = n + 1
from_border (negsuc n) = 0

-- m split (rule P11) by how far it lies past the nearer row, column and slot
unfoldable pub shares_of : Float → Float → Float → Float → Shares
shares_of m rb cb ob =
    let r1 = m ⊗ rb in
    let r0 = m ⊖ r1 in
    let rc11 = r1 ⊗ cb in
    let rc10 = r1 ⊖ rc11 in
    let rc01 = r0 ⊗ cb in
    let rc00 = r0 ⊖ rc01 in
    record {
      v000 = rc00 ⊖ rc00 ⊗ ob;
      v001 = rc00 ⊗ ob;
      v010 = rc01 ⊖ rc01 ⊗ ob;
      v011 = rc01 ⊗ ob;
      v100 = rc10 ⊖ rc10 ⊗ ob;
      v101 = rc10 ⊗ ob;
      v110 = rc11 ⊖ rc11 ⊗ ob;
      v111 = rc11 ⊗ ob;
    }

-- a sample's shares and where they go, in a patch that is turned by `angle`
unfoldable pub spread_of : Float → Sample → Spread
spread_of angle s =
    let turn = (angle_of s.dx s.dy ⊖ angle) ⊗ bins_per_degree in
    let r0 = floor_i s.rbin in
    let c0 = floor_i s.cbin in
    let o0 = floor_i turn in
    let m = magnitude_of s.dx s.dy ⊗ exp_of s.fall in
    record {
      row = from_border r0;
      col = from_border c0;
      slot = slot_of o0;
      shares = shares_of m (s.rbin ⊖ float_z r0) (s.cbin ⊖ float_z c0) (turn ⊖ float_z o0);
    }
