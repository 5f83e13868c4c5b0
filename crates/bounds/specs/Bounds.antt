-- Rust's `max`, `min` and `clamp` on floats (rule I10). Definitions only.
use Rattle.std.specs.Prelude.{cond, Float}
use Rattle.ieee.specs.F32.{◌<ᶠ◌, ◌≤ᶠ◌, ◌=ᶠ◌}

-- a, unless it is a not-a-number
abbrev pub number_or : Float → Float → Float
number_or a b = cond (a =ᶠ a) a b

-- the larger; beside a not-a-number, the other. Of two zeros Rust leaves open which; this takes the second
unfoldable pub max_of : Float → Float → Float
max_of a b = cond (a ≤ᶠ b) b (number_or a b)

unfoldable pub min_of : Float → Float → Float
min_of a b = cond (b ≤ᶠ a) b (number_or a b)

-- x held in lo to hi
unfoldable pub clamp_of : Float → Float → Float → Float
clamp_of x lo hi = cond (x <ᶠ lo) lo (cond (hi <ᶠ x) hi x)

-- the lesser and the greater, the second where neither is less: one selection
abbrev pub lesser_of : Float → Float → Float
lesser_of a b = cond (a <ᶠ b) a b

abbrev pub greater_of : Float → Float → Float
greater_of a b = cond (a <ᶠ b) b a
