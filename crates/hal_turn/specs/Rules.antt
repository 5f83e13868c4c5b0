-- Law: what rule F6 asks of sine and cosine, of the definitions beside this page.
-- proofs/Rules.antt proves each: `sine_rule : SineRule`, and so on. Accuracy (rule F9) is no statement here: `run_hal` measures it. Definitions only.
use Rattle.std.specs.Prelude.{◌≡◌, false, T, Float}
use Rattle.std.specs.Float.{nan, binary32}
use Rattle.std.specs.Float.Ieee.{fits}
use Rattle.ieee.specs.Numbers.{nought, one, minus_one, quarter_turn, half_turn, three_quarter_turn, whole_turn}
use Rattle.hal.specs.Rules.{In}
use Rattle.hal_turn.specs.Turn.{in_turn, sin_of, cos_of}

-- a function of degrees that is a, b, c, d at 0, 90, 180, 270, and a again at 360
pub record TurnRule (f : Float → Float) (a b c d : Float) : Type 0 where
  pub within : (x : Float) → T (in_turn x) → In minus_one one (f x)
  pub at_0 : f nought ≡ a
  pub at_90 : f quarter_turn ≡ b
  pub at_180 : f half_turn ≡ c
  pub at_270 : f three_quarter_turn ≡ d
  pub at_360 : f whole_turn ≡ a
  pub outside : (x : Float) → in_turn x ≡ false → f x ≡ nan
  pub held : (x : Float) → T (fits binary32 (f x))

abbrev pub SineRule : Type 0
SineRule = TurnRule sin_of nought one nought minus_one

abbrev pub CosineRule : Type 0
CosineRule = TurnRule cos_of one nought minus_one nought
