-- What the descriptor is asked with for an oriented keypoint: position and scale in its octave's cells, and the angle turned round. Operation by operation as `descriptor_inputs` of the source. Definitions only.
use Rattle.std.specs.Prelude.{ℕ, ◌^◌, Bool, true, ◌&&◌, not, cond, [], ◌∷◌, ltb, ℤ, pos, negsuc, Float, Result, Ok, Err}
use Rattle.std.specs.Float.Ieee.{is_nan}
use Rattle.std.specs.Float.Ieee.Scale.{finite}
use Rattle.ieee.specs.F32.{◌⊖◌, ◌⊗◌, ◌⊘◌, ◌<ᶠ◌, ◌≤ᶠ◌, abs_of, float}
use Rattle.ieee.specs.Numbers.{nought, half, one, whole_turn, epsilon}
use Rattle.params.specs.Limits.{max_octave}
use Rattle.params.specs.Table.{line, first_fault, within}
use Rattle.params.specs.Answers.{on_fault, refusal_number}
use Rattle.params.specs.declared.Refusal.{Refusal}
use Rattle.orient_words.specs.declared.OrientedKeypoint.{OrientedKeypoint}
use Rattle.picture.specs.declared.Spot.{Spot}

-- The number of a refusal, or 0, and what the descriptor is asked with; all +0 on a refusal (rule A16).
pub record Inputs : Type 0 where
  pub number : ℕ
  pub x : Float
  pub y : Float
  pub scale : Float
  pub angle : Float

-- 4: octave not in 0 to 15 (rule A7)
abbrev pub octave_wrong : ℤ → Bool
octave_wrong (pos n) = ltb max_octave n
octave_wrong (negsuc n) = true

-- 5 (rule A10): a position or a size that is not finite, a size below 0, an angle outside 0 to 360; and a response that is no number, for then it is no keypoint
unfoldable pub oriented_wrong : OrientedKeypoint → Bool
oriented_wrong o =
    not
    (finite o.x
    && (finite o.y
    && (finite o.size
    && ((nought ≤ᶠ o.size) && (within nought whole_turn o.angle && not (is_nan o.response))))))

unfoldable pub inputs_fault : OrientedKeypoint → ℤ → ℕ
inputs_fault o octave = first_fault (line 4 (octave_wrong octave) ∷ line 5 (oriented_wrong o) ∷ [])

-- 1 / 2^octave (rule P1)
abbrev pub octave_of : ℤ → ℕ
octave_of (pos n) = n
octave_of (negsuc n) = 0

unfoldable pub shrink_of : ℕ → Float
shrink_of octave = one ⊘ float (2 ^ octave)

-- 360 - angle, and 0 where that is within f32 epsilon of 360
unfoldable pub reversed_of : Float → Float
reversed_of angle = let reversed = whole_turn ⊖ angle in cond (abs_of (reversed ⊖ whole_turn) <ᶠ epsilon) nought reversed

-- a keypoint of an octave that is accepted
unfoldable pub given_of : OrientedKeypoint → ℕ → Inputs
given_of o octave =
    let by = shrink_of octave in
    record { number = 0; x = o.x ⊗ by; y = o.y ⊗ by; scale = o.size ⊗ by ⊗ half; angle = reversed_of o.angle }

-- a refusal carries +0
abbrev pub refused_with : ℕ → Inputs
refused_with n = record { number = n; x = nought; y = nought; scale = nought; angle = nought }

unfoldable pub inputs_of : OrientedKeypoint → ℤ → Inputs
inputs_of o octave = on_fault (inputs_fault o octave) (given_of o (octave_of octave)) (refused_with (inputs_fault o octave))

-- What a result of the code is in these words: a refusal's floats are +0. No two of those that it gives are told alike.
abbrev pub inputs_told : Result Spot Refusal → Inputs
inputs_told (Ok p) = record { number = 0; x = p.x; y = p.y; scale = p.scale; angle = p.angle }
inputs_told (Err r) = record { number = refusal_number r; x = nought; y = nought; scale = nought; angle = nought }
