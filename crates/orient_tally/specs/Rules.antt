-- Law: what is proved of a window's samples: proofs/Rules.antt proves each. Definitions only.
use Rattle.std.specs.Prelude.{ℕ, ◌+◌, ◌<◌, ◌≡◌, true, List, pos, Float}
use Rattle.std.specs.Float.{binary32}
use Rattle.std.specs.Float.Ieee.{of_int}
use Rattle.ieee.specs.F32.{◌⊗◌}
use Rattle.params.specs.Limits.{scale_low, scale_high}
use Rattle.params.specs.Table.{within}
use Rattle.picture.specs.Picture.{slope_at}
use Rattle.picture.specs.declared.Size.{Size}
use Rattle.hal.specs.Exp.{in_down}
use Rattle.hal_reach.specs.Reach.{in_angle}
use Rattle.orient_window.specs.Window.{cell, window_of}
use Rattle.orient_window.specs.Good.{window_good}
use Rattle.orient_window.specs.declared.Window.{Window}
use Rattle.orient_tally.specs.Sample.{square_at}

pub record TallyRule : Type 0 where
  -- of good samples the angle and the magnitude are asked inside their range
  pub slopes : (img : List Float) (win : Window) (i j : ℕ) → window_good img win ≡ true → i < win.rows → j < win.cols
      → in_angle (slope_at img win.size.width (win.top + i) (win.left + j)).dx (slope_at img win.size.width (win.top + i) (win.left + j)).dy ≡ true
  -- for every accepted scale the exponent of each cell's weight, rounding included, lies in −32 to 0
  pub exponents : (s : Size) (row col : ℕ) (scale : Float) (i j : ℕ) → row < s.height → col < s.width → within scale_low scale_high scale ≡ true
      → i < (window_of s row col scale).rows → j < (window_of s row col scale).cols
      → in_down (of_int binary32 (pos (square_at (window_of s row col scale) (cell ((window_of s row col scale).top + i) ((window_of s row col scale).left + j)))) ⊗ (window_of s row col scale).falloff) ≡ true
