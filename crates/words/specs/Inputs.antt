-- The descriptor's inputs (rule P1) given back in words. Definitions only.
use Rattle.std.specs.Prelude.{ℕ, cond, List, [], ◌∷◌, eqb, length}
use Rattle.ieee.specs.F32.{bits_of}
use Rattle.params.specs.Answers.{on_fault}
use Rattle.descriptor_inputs.specs.Inputs.{Inputs}

-- the inputs go out as so many words: x, y, scale and angle by their bits
abbrev pub input_words : ℕ
input_words = 4

abbrev pub words_out : Inputs → List ℕ
words_out i = bits_of i.x ∷ bits_of i.y ∷ bits_of i.scale ∷ bits_of i.angle ∷ []

-- the number: that of the inputs, and then 7 where not four words are lent
unfoldable pub inputs_number : Inputs → ℕ → ℕ
inputs_number i room = on_fault i.number (cond (eqb room input_words) 0 7) i.number

-- the lent words afterwards: the four, or on any refusal what stood there
unfoldable pub inputs_left : Inputs → List ℕ → List ℕ
inputs_left i out = on_fault (inputs_number i (length out)) (words_out i) out
