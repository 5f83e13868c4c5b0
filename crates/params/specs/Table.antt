-- The table of refusals, rules A2 and A3: the tests by their numbers, and the first that fails. Definitions only.
use Rattle.std.specs.Prelude.{ℕ, ◌+◌, Bool, true, false, ◌&&◌, ◌||◌, not, List, [], ◌∷◌, eqb, leb, ltb, Float}
use Rattle.std.specs.Float.Ieee.{le, neg}
use Rattle.params.specs.Limits.{max_side, max_layers, max_planes, max_octave, sample_limit, contrast_low, contrast_high, edge_low, edge_high, sigma_low, sigma_high}
use Rattle.params.specs.declared.Settings.{Settings}

-- a line of the table: its number, and whether it is given
pub data Line : Type 0 where
  line : ℕ → Bool → Line

-- the number of the first line that is given, and 0 where none is
unfoldable pub first_fault : List Line → ℕ
first_fault [] = 0
first_fault (line n true ∷ ls) = n
first_fault (line n false ∷ ls) = first_fault ls

-- 1, rule A4: a side is 0, or above the limit
abbrev pub side_wrong : ℕ → Bool
side_wrong n = eqb n 0 || ltb max_side n

unfoldable pub shape_wrong : ℕ → ℕ → Bool
shape_wrong width height = side_wrong width || side_wrong height

-- 2, rule A5: the layer searched is none of the layers, or these and a plane on either side of them are more than the planes, or layers or planes are too many
unfoldable pub layers_wrong : ℕ → ℕ → ℕ → Bool
layers_wrong planes layer layers =
    not (leb 1 layer && (leb layer layers && leb (layers + 2) planes)) || (ltb max_layers layers || ltb max_planes planes)

-- 3, rule A6: a list of samples is longer or shorter than its shape
unfoldable pub length_wrong : ℕ → ℕ → Bool
length_wrong length need = not (eqb length need)

-- x lies from low to high: no not-a-number does
abbrev pub within : Float → Float → Float → Bool
within low high x = le low x && le x high

-- 4, rule A7: a setting or the octave is out of its range
unfoldable pub contrast_wrong : Float → Bool
contrast_wrong x = not (within contrast_low contrast_high x)

unfoldable pub settings_wrong : Settings → ℕ → Bool
settings_wrong s octave =
    contrast_wrong s.contrast
    || (not (within edge_low edge_high s.edge) || (not (within sigma_low sigma_high s.sigma) || ltb max_octave octave))

-- 6, rule A13: a sample is no number, or its magnitude is above 2 ^ 20
abbrev pub good_sample : Float → Bool
good_sample x = within (neg sample_limit) sample_limit x

unfoldable pub all_good : List Float → Bool
all_good [] = true
all_good (x ∷ xs) = good_sample x && all_good xs
