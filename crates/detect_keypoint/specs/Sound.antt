-- Law: what holds of every keypoint that refinement gives for a place, settings and samples that the table accepts. Definitions only.
use Rattle.std.specs.Prelude.{◌≡◌, ℕ, ◌-◌, ◌*◌, ◌/◌, ◌%◌, ◌^◌, ◌<◌, ◌≤◌, true, T, Float}
use Rattle.std.specs.Float.{binary32}
use Rattle.std.specs.Float.Ieee.{fits}
use Rattle.std.specs.Float.Ieee.Scale.{finite}
use Rattle.ieee.specs.F32.{◌⊕◌, ◌⊗◌, ◌⊘◌, ◌<ᶠ◌, ◌≤ᶠ◌, abs_of, float}
use Rattle.ieee.specs.Numbers.{nought, half}
use Rattle.hal.specs.Exp.{in_up}
use Rattle.params.specs.Limits.{border, max_moves}
use Rattle.params.specs.declared.Settings.{Settings}
use Rattle.detect_keypoint.specs.declared.RawKeypoint.{RawKeypoint}

-- a finite value of an f32
pub record Number (x : Float) : Type 0 where
  pub held : T (fits binary32 x)
  pub ends : finite x ≡ true

-- x is v moved by less than half a cell, times 2 ^ o
pub record Near (v o : ℕ) (x : Float) : Type 0 where
  pub offset : Float
  pub held : T (fits binary32 offset)
  pub small : (abs_of offset <ᶠ half) ≡ true
  pub is : x ≡ (float v ⊕ offset) ⊗ float (2 ^ o)

-- k is a keypoint of the octave o of a frame w wide and h high, searched with s
pub record Sound (w h : ℕ) (s : Settings) (o : ℕ) (k : RawKeypoint) : Type 0 where
  -- its cell is at least the border from every edge, and its layer is 1 to layers
  pub left : border ≤ k.cc
  pub right : k.cc < w - border
  pub top : border ≤ k.rr
  pub bottom : k.rr < h - border
  pub first : 1 ≤ k.layer
  pub last : k.layer ≤ s.layers
  -- 0 to 4
  pub moves : k.moves < max_moves
  -- the octave word: the octave, the layer, a code of a byte, and nothing above
  pub low_byte : k.octave % 2 ^ 8 ≡ o
  pub next_byte : k.octave / 2 ^ 8 % 2 ^ 8 ≡ k.layer
  pub third_byte : k.octave / 2 ^ 16 < 2 ^ 8
  -- every float is finite; x, y and size are above 0, and the response has no sign
  pub x_number : Number k.x
  pub y_number : Number k.y
  pub size_number : Number k.size
  pub response_number : Number k.response
  pub xi_number : Number k.xi
  pub x_above : (nought <ᶠ k.x) ≡ true
  pub y_above : (nought <ᶠ k.y) ≡ true
  pub size_above : (nought <ᶠ k.size) ≡ true
  pub response_plain : abs_of k.response ≡ k.response
  -- the position is the cell's, moved by less than half a cell
  pub x_near : Near k.cc o k.x
  pub y_near : Near k.rr o k.y
  pub xi_small : (abs_of k.xi <ᶠ half) ≡ true
  -- sigma is 0.5 to 16, the power of two 1 to 4, and the size twice their product, scaled
  pub size_from : (float (2 ^ o) ≤ᶠ k.size) ≡ true
  pub size_to : (k.size ≤ᶠ float (2 ^ 7 * 2 ^ o)) ≡ true
  -- exp2 was asked inside its range
  pub asked : in_up ((float k.layer ⊕ k.xi) ⊘ float s.layers) ≡ true
