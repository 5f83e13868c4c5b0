-- The limits of what is accepted, each by its name. Definitions only.
use Rattle.std.specs.Prelude.{ℕ, Float}
use Rattle.std.specs.Float.{binary32, binary64}
use Rattle.std.specs.Float.Ieee.{of_bits}

-- the largest width or height
abbrev pub max_side : ℕ
max_side = 8192

-- the most layers, and the most planes: one below and one above the layers
abbrev pub max_layers : ℕ
max_layers = 15

abbrev pub max_planes : ℕ
max_planes = 17

abbrev pub max_octave : ℕ
max_octave = 15

-- cells this near to an edge are not searched
abbrev pub border : ℕ
border = 5

-- a candidate that is not settled after so many moves is dropped
abbrev pub max_moves : ℕ
max_moves = 5

-- a keypoint goes out as so many words
abbrev pub keypoint_words : ℕ
keypoint_words = 10

-- thinning: the most keypoints of a list, as many as positions of 32 bits; and how often a frame is cut at the most
abbrev pub max_keypoints : ℕ
max_keypoints = 4294967296

abbrev pub max_depth : ℕ
max_depth = 12

-- the values of a descriptor, 4 × 4 cells of 8 slots: so many are written, and so many has a record of the sheet
abbrev pub value_count : ℕ
value_count = 128

-- 2 ^ 20, the largest magnitude of a sample
abbrev pub sample_limit : Float
sample_limit = of_bits binary32 0x4980_0000

-- of f64s: 0, 1, 1000, 0.5 and 16
abbrev pub contrast_low : Float
contrast_low = of_bits binary64 0

abbrev pub contrast_high : Float
contrast_high = of_bits binary64 0x3ff0_0000_0000_0000

abbrev pub edge_low : Float
edge_low = of_bits binary64 0x3ff0_0000_0000_0000

abbrev pub edge_high : Float
edge_high = of_bits binary64 0x408f_4000_0000_0000

abbrev pub sigma_low : Float
sigma_low = of_bits binary64 0x3fe0_0000_0000_0000

abbrev pub sigma_high : Float
sigma_high = of_bits binary64 0x4030_0000_0000_0000

-- of f32s: 0.125 and 64, the least and the largest scale of a keypoint in its octave
abbrev pub scale_low : Float
scale_low = of_bits binary32 0x3e00_0000

abbrev pub scale_high : Float
scale_high = of_bits binary32 0x4280_0000
