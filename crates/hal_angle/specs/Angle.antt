-- The angle of a pair in degrees, as docs/ROUTINES.md has its steps (rule F7). Definitions only.
use Rattle.std.specs.Prelude.{ℕ, ◌+◌, ◌*◌, ◌%◌, Bool, true, false, cond, get_or, Float}
use Rattle.std.specs.Float.{nan}
use Rattle.ieee.specs.F32.{◌⊕◌, ◌⊖◌, ◌⊗◌, ◌⊘◌, ◌<ᶠ◌, abs_of, bits_of}
use Rattle.ieee.specs.Numbers.{nought, eighth_turn, quarter_turn, half_turn, three_quarter_turn}
use Rattle.bounds.specs.Bounds.{lesser_of, greater_of}
use Rattle.hal_reach.specs.Reach.{in_angle}
use Rattle.hal_angle.specs.Numbers.{last_angle, three_eighth_turn, five_eighth_turn, seven_eighth_turn, steps63, minus_steps63, shift}
use Rattle.hal_angle.specs.Turns.{turns}

-- ---- how far |dy| is ahead of |dx|: from -1, along the axis of dx, to 1, along that of dy

abbrev pub sum_of : Float → Float → Float
sum_of dx dy = abs_of dy ⊕ abs_of dx

unfoldable pub ahead_of : Float → Float → Float
ahead_of dx dy = (abs_of dy ⊖ abs_of dx) ⊘ sum_of dx dy

-- ---- the quarter, by whether dx and whether dy is negative

pub record Quarter : Type 0 where
  pub middle : Float
  -- 63, with a minus where the angle falls as |dy| gets ahead
  pub steps : Float
  pub least : Float
  pub largest : Float

abbrev pub quarter_of : Bool → Bool → Quarter
quarter_of false false = record { middle = eighth_turn; steps = steps63; least = nought; largest = quarter_turn }
quarter_of true false = record { middle = three_eighth_turn; steps = minus_steps63; least = quarter_turn; largest = half_turn }
quarter_of true true = record { middle = five_eighth_turn; steps = steps63; least = half_turn; largest = three_quarter_turn }
quarter_of false true = record { middle = seven_eighth_turn; steps = minus_steps63; least = three_quarter_turn; largest = last_angle }

-- ---- the line at u, from -63 to 63

abbrev pub turn_at : ℕ → Float
turn_at i = get_or turns i nan

-- line k of the table, d steps from where it starts
unfoldable pub line_of : Float → ℕ → Float → Float
line_of middle k d = middle ⊕ turn_at (2 * k) ⊕ d ⊗ turn_at (2 * k + 1)

-- the last seven digits of u + shift are the whole number next to u, counted from -63
unfoldable pub along_of : Float → Float → Float
along_of middle u = line_of middle (bits_of (u ⊕ shift) % 128) (u ⊖ (u ⊕ shift ⊖ shift))

-- held in the quarter
unfoldable pub direction_of : Quarter → Float → Float
direction_of q ahead = lesser_of (greater_of q.least (along_of q.middle (ahead ⊗ q.steps))) q.largest

-- ---- (0, 0) has no direction: its sum is not above 0, and its angle is 0

unfoldable pub angle_of : Float → Float → Float
angle_of dx dy = cond (in_angle dx dy) (cond (nought <ᶠ sum_of dx dy) (direction_of (quarter_of (dx <ᶠ nought) (dy <ᶠ nought)) (ahead_of dx dy)) nought) nan
