-- The threshold of detection, rule D1. Definitions only.
use Rattle.std.specs.Prelude.{ℕ, ◌||◌, [], ◌∷◌, pos, ◌==◌, from_bits, nat_lt, Result, Ok, Err, Float}
use Rattle.std.specs.Float.{binary64}
use Rattle.std.specs.Float.Ieee.{of_int, mul, div}
use Rattle.ieee.specs.F32.{narrowed}
use Rattle.ieee.specs.Whole.{floor}
use Rattle.ieee.specs.Numbers.{nought}
use Rattle.params.specs.Limits.{max_layers}
use Rattle.params.specs.Table.{line, first_fault, contrast_wrong}
use Rattle.params.specs.Answers.{on_fault, refusal_number}
use Rattle.params.specs.declared.Refusal.{Refusal}

-- 0.5 and 255, as f64s
abbrev pub half64 : Float
half64 = from_bits binary64 0x3fe0_0000_0000_0000

abbrev pub full64 : Float
full64 = from_bits binary64 0x406f_e000_0000_0000

-- half of the contrast, over the layers, times 255: in f64, and in this order
abbrev pub level_of : Float → ℕ → Float
level_of contrast layers = mul binary64 (div binary64 (mul binary64 half64 contrast) (of_int binary64 (pos layers))) full64

-- its floor, as f32
unfoldable pub threshold_of : Float → ℕ → Float
threshold_of contrast layers = narrowed (floor binary64 (level_of contrast layers))

-- What the threshold's entry answers: the threshold, or a refusal by the number of rule A2.
pub data Threshold : Type 0 where
  Given : Float → Threshold
  Refused : ℕ → Threshold

-- what a result of the code says in these words
abbrev pub threshold_told : Result Float Refusal → Threshold
threshold_told (Ok x) = Given x
threshold_told (Err r) = Refused (refusal_number r)

-- the threshold's own refusals: 2 for the layers, 4 for the contrast
unfoldable pub threshold_fault : Float → ℕ → ℕ
threshold_fault contrast layers = first_fault (line 2 (layers == 0 || nat_lt max_layers layers) ∷ line 4 (contrast_wrong contrast) ∷ [])

-- what the entry answers, the number that this stands for, and the value beside it: +0 on a refusal, rule A16
unfoldable pub threshold_answer : Float → ℕ → Threshold
threshold_answer contrast layers = on_fault (threshold_fault contrast layers) (Given (threshold_of contrast layers)) (Refused (threshold_fault contrast layers))

abbrev pub threshold_number : Threshold → ℕ
threshold_number (Given x) = 0
threshold_number (Refused k) = k

abbrev pub threshold_value : Threshold → Float
threshold_value (Given x) = x
threshold_value (Refused k) = nought
