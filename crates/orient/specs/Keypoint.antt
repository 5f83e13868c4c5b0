-- What orientation asks of a raw keypoint: number 5, as rule A9 has it. Definitions only.
use Rattle.std.specs.Prelude.{ℕ, ◌/◌, ◌%◌, ◌^◌, Bool, ◌&&◌, ◌||◌, not, leb, ltb, Float}
use Rattle.std.specs.Float.Ieee.Scale.{finite}
use Rattle.ieee.specs.F32.{◌⊗◌, ◌⊘◌, float}
use Rattle.ieee.specs.Numbers.{half}
use Rattle.params.specs.Limits.{max_octave, max_layers, scale_low, scale_high}
use Rattle.params.specs.Table.{within}
use Rattle.picture.specs.declared.Size.{Size}
use Rattle.detect_keypoint.specs.declared.RawKeypoint.{RawKeypoint}

-- its cell is none of the picture's
unfoldable pub cell_wrong : Size → RawKeypoint → Bool
cell_wrong s k = not (ltb k.rr s.height && ltb k.cc s.width)

-- the octave word's lowest bytes: rule A12
abbrev pub octave_in : ℕ → ℕ
octave_in word = word % 2 ^ 8

abbrev pub layer_in : ℕ → ℕ
layer_in word = word / 2 ^ 8 % 2 ^ 8

unfoldable pub octave_wrong : ℕ → Bool
octave_wrong word = ltb max_octave (octave_in word) || (not (leb 1 (layer_in word) && leb (layer_in word) max_layers) || leb (2 ^ 24) word)

-- a float is an infinity or a not-a-number
unfoldable pub floats_wrong : RawKeypoint → Bool
floats_wrong k = not (finite k.x && (finite k.y && (finite k.size && (finite k.response && finite k.xi))))

-- the scale in the keypoint's own octave: rule O1
unfoldable pub scale_of : RawKeypoint → Float
scale_of k = k.size ⊗ half ⊘ float (2 ^ octave_in k.octave)

unfoldable pub scale_wrong : RawKeypoint → Bool
scale_wrong k = not (within scale_low scale_high (scale_of k))

-- any of these; layer and moves are not looked at
unfoldable pub keypoint_wrong : Size → RawKeypoint → Bool
keypoint_wrong s k = cell_wrong s k || (octave_wrong k.octave || (floats_wrong k || scale_wrong k))
