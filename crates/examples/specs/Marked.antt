-- Law: the marked examples that are proved, rules E1 to E4, as one table under one statement. Definitions only.
use Rattle.std.specs.Prelude.{ℕ, ◌≡◌, true, List, [], ◌∷◌, T, Float}
use Rattle.ieee.specs.F32.{◌⊕◌, ◌⊗◌, f32, fused, floor_of, rounded}
use Rattle.ieee.specs.Numbers.{nought, half, three_halves, two, minus_one}
use Rattle.params.specs.Limits.{contrast_low, contrast_high}
use Rattle.detect_threshold.specs.Threshold.{threshold_of}

infix 3 ◌gives◌
-- what a row asks: a floor, a rounding, a * b + c rounded once or twice, and a threshold for a contrast and a number of layers
pub data Question : Type 0 where
  floored : Float → Question
  nearest : Float → Question
  fused_once : Float → Float → Float → Question
  rounded_twice : Float → Float → Float → Question
  threshold : Float → ℕ → Question

abbrev pub answer : Question → Float
answer (floored x) = floor_of x
answer (nearest x) = rounded x
answer (fused_once a b c) = fused a b c
answer (rounded_twice a b c) = a ⊗ b ⊕ c
answer (threshold contrast layers) = threshold_of contrast layers

pub data Row : Type 0 where
  ◌gives◌ : Question → Float → Row

-- ---- the floats that this table alone names; the contrasts 0 and 1 are the least and the largest that are accepted

abbrev pub minus_two : Float
minus_two = f32 0xc000_0000

abbrev pub minus_one_and_a_half : Float
minus_one_and_a_half = f32 0xbfc0_0000

abbrev pub minus_half : Float
minus_half = f32 0xbf00_0000

abbrev pub two_and_a_half : Float
two_and_a_half = f32 0x4020_0000

abbrev pub two_and_three_quarters : Float
two_and_three_quarters = f32 0x4030_0000

-- 127
abbrev pub middle : Float
middle = f32 0x42fe_0000

-- 1 + 2 ^ -12, -(1 + 2 ^ -11) and 2 ^ -24
abbrev pub a : Float
a = f32 0x3f80_0800

abbrev pub c : Float
c = f32 0xbf80_1000

abbrev pub small : Float
small = f32 0x3380_0000

-- ---- the table

abbrev pub marked : List Row
marked =
    (floored minus_half gives minus_one)
    ∷ (floored minus_one gives minus_one)
    ∷ (floored two_and_three_quarters gives two)
    ∷ (nearest half gives nought)
    ∷ (nearest three_halves gives two)
    ∷ (nearest two_and_a_half gives two)
    ∷ (nearest minus_one_and_a_half gives minus_two)
    ∷ (fused_once a a c gives small)
    ∷ (rounded_twice a a c gives nought)
    ∷ (threshold contrast_high 1 gives middle)
    ∷ (threshold contrast_low 1 gives nought)
    ∷ []

-- every row gives what stands beside it, sign of zero and all
abbrev pub Holds : List Row → Type 0
Holds [] = T true
Holds ((question gives expected) ∷ rows) = (answer question ≡ expected) × Holds rows
