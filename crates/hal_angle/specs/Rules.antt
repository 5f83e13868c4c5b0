-- Law: what rule F7 asks of the angle, of the definition beside this page; and what callers ask besides.
-- proofs/Rules.antt proves it: `angle_rule : AngleRule`. Accuracy (rule F9) is no statement here: `run_hal` measures it. Definitions only.
use Rattle.std.specs.Prelude.{◌≡◌, Bool, true, false, T, Float}
use Rattle.std.specs.Float.{nan, binary32}
use Rattle.std.specs.Float.Ieee.{fits}
use Rattle.ieee.specs.F32.{◌⊕◌, ◌<ᶠ◌, ◌≤ᶠ◌, ◌=ᶠ◌}
use Rattle.ieee.specs.Numbers.{nought, quarter_turn, half_turn, three_quarter_turn, whole_turn}
use Rattle.hal.specs.Rules.{In}
use Rattle.hal_reach.specs.Reach.{in_angle}
use Rattle.hal_angle.specs.Angle.{angle_of}

-- the quarter that the signs name, by whether dx and whether dy is negative: where it starts, and where it ends
abbrev pub start_of : Bool → Bool → Float
start_of false false = nought
start_of true false = quarter_turn
start_of true true = half_turn
start_of false true = three_quarter_turn

abbrev pub end_of : Bool → Bool → Float
end_of false false = quarter_turn
end_of true false = half_turn
end_of true true = three_quarter_turn
end_of false true = whole_turn

abbrev pub double : Float → Float
double x = x ⊕ x

pub record AngleRule : Type 0 where
  -- from 0 on, and less than 360
  pub least : (dx dy : Float) → T (in_angle dx dy) → T (nought ≤ᶠ angle_of dx dy)
  pub below : (dx dy : Float) → T (in_angle dx dy) → T (angle_of dx dy <ᶠ whole_turn)
  -- between the ends of the quarter, and along the half axes: of values of binary32, since the sum of smaller ones can be rounded to 0
  pub quarters : (dx dy : Float) → T (fits binary32 dx) → T (fits binary32 dy) → T (in_angle dx dy) → In (start_of (dx <ᶠ nought) (dy <ᶠ nought)) (end_of (dx <ᶠ nought) (dy <ᶠ nought)) (angle_of dx dy)
  pub east : (dx dy : Float) → T (in_angle dx dy) → T (nought <ᶠ dx) → T (dy =ᶠ nought) → angle_of dx dy ≡ nought
  pub north : (dx dy : Float) → T (fits binary32 dx) → T (fits binary32 dy) → T (in_angle dx dy) → T (dx =ᶠ nought) → T (nought <ᶠ dy) → angle_of dx dy ≡ quarter_turn
  pub west : (dx dy : Float) → T (fits binary32 dx) → T (fits binary32 dy) → T (in_angle dx dy) → T (dx <ᶠ nought) → T (dy =ᶠ nought) → angle_of dx dy ≡ half_turn
  pub south : (dx dy : Float) → T (fits binary32 dx) → T (fits binary32 dy) → T (in_angle dx dy) → T (dx =ᶠ nought) → T (dy <ᶠ nought) → angle_of dx dy ≡ three_quarter_turn
  -- (0, 0) has no direction, and the angle 0
  pub none : (dx dy : Float) → T (in_angle dx dy) → T (dx =ᶠ nought) → T (dy =ᶠ nought) → angle_of dx dy ≡ nought
  -- doubling both changes no bit
  pub doubled : (dx dy : Float) → T (fits binary32 dx) → T (fits binary32 dy) → T (in_angle dx dy) → T (in_angle (double dx) (double dy)) → angle_of (double dx) (double dy) ≡ angle_of dx dy
  pub outside : (dx dy : Float) → in_angle dx dy ≡ false → angle_of dx dy ≡ nan
  pub held : (dx dy : Float) → T (fits binary32 (angle_of dx dy))
