-- Inner: the one step to a whole number, whichever way. Definitions only.
use Rattle.std.specs.Prelude.{Bool, cond, ℕ, ◌+◌, ◌-◌, ◌*◌, ◌/◌, ◌%◌, Float}
use Rattle.std.specs.Float.{nan, inf, fin, Format}
use Rattle.std.specs.Float.Ieee.{up, down, round}
use Rattle.std.specs.Float.Ieee.Nearest.{closest}
use Rattle.ieee.specs.Whole.{floor_size}
use Rattle.ieee_whole.specs.declared.Way.{Way}
use Rattle.ieee_whole.specs.declared.Way.TheVariants.{Zero, Down, Near}

-- The size of the whole number that ±a / b goes to: toward zero, downward, or to the nearest.
abbrev pub whole_size : Way → Bool → ℕ → ℕ → ℕ
whole_size Zero s a b = a / b
whole_size Down s a b = floor_size s a b
whole_size Near s a b = closest a b

-- What is added to a so that the quotient by b, cut, is that number: b - 1 takes a cut to the next number up, and b / 2 to the nearest, less one for a tie with an even
-- number below it. b is even.
abbrev pub before_cut : Way → Bool → ℕ → ℕ → ℕ
before_cut Zero s a b = 0
before_cut Down s a b = cond s (b - 1) 0
before_cut Near s a b = b / 2 - 1 + a / b % 2

-- x gone that way to a whole number, as a float. `floor` and `round_even` are two of the ways.
unfoldable pub whole : Way → Format → Float → Float
unfolding round
whole w f nan = nan
whole w f (inf s) = inf s
whole w f (fin s m e) = round f s (whole_size w s (m * up e) (down e)) 1
