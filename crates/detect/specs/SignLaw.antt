-- Law: Rule D18, of negative and positive film. Turn the sign of every sample of a stack that the table accepts, and detection gives the same answer and the same keypoints.
-- `proofs/SignLaw.antt` shows `NegativesAgree` and `RunsAgree`. Definitions only.
use Rattle.std.specs.Prelude.{ℕ, ◌≡◌, List, ◌∷◌, map, length, Float}
use Rattle.std.specs.Float.Ieee.{neg}
use Rattle.ieee.specs.F32.{f32}
use Rattle.ieee_laws.specs.Sign.{Same}
use Rattle.params.specs.declared.Settings.{Settings}
use Rattle.picture.specs.declared.Shape.{Shape}
use Rattle.detect_extrema.specs.SameList.{SameList}
use Rattle.detect.specs.Entry.{fault_of, list_of, extrema_answer, extrema_out}

-- the stack with every sample negated
abbrev pub negative : List Float → List Float
negative d = map neg d

-- what holds of a stack d and its negative, with the same shape, layer, octave, settings and room
pub record SignLaw (d : List Float) (t : Shape) (layer octave : ℕ) (s : Settings) (room : ℕ) : Type 0 where
  pub accepted : fault_of (negative d) t layer octave s ≡ 0
  pub answer : extrema_answer (negative d) t layer octave s room ≡ extrema_answer d t layer octave s room
  pub list : SameList (list_of d t layer octave s) (list_of (negative d) t layer octave s)

-- the law: it holds of every stack that the table accepts, at every room
abbrev pub NegativesAgree : Type 0
NegativesAgree = (d : List Float) (t : Shape) (layer octave : ℕ) (s : Settings) (room : ℕ) → fault_of d t layer octave s ≡ 0 → SignLaw d t layer octave s room

-- Words that say the same: keypoints' ten words, equal but for the seventh, xi, which has the same number by its bits; and after them what nobody wrote.
pub data SameWords : List ℕ → List ℕ → Type 0 where
  rest : {ws : List ℕ} → SameWords ws ws
  keypoint : {x y size response octave layer xi xi' cc rr moves : ℕ} {ws vs : List ℕ} → Same (f32 xi) (f32 xi') → SameWords ws vs
      → SameWords (x ∷ y ∷ size ∷ response ∷ octave ∷ layer ∷ xi ∷ cc ∷ rr ∷ moves ∷ ws) (x ∷ y ∷ size ∷ response ∷ octave ∷ layer ∷ xi' ∷ cc ∷ rr ∷ moves ∷ vs)

-- Two runs of the entry on a stack and on its negative, with lent words that stand alike before. By the entry's contract a run's answer and its words afterwards
-- are `extrema_answer` and `extrema_out`. So the answers are equal, and the words say the same.
pub record TwoRuns (d : List Float) (t : Shape) (layer octave : ℕ) (s : Settings) (out : List ℕ) : Type 0 where
  pub answer : extrema_answer (negative d) t layer octave s (length out) ≡ extrema_answer d t layer octave s (length out)
  pub words : SameWords (extrema_out d t layer octave s out) (extrema_out (negative d) t layer octave s out)

-- the law of two runs: it holds of all arguments, accepted or refused
abbrev pub RunsAgree : Type 0
RunsAgree = (d : List Float) (t : Shape) (layer octave : ℕ) (s : Settings) (out : List ℕ) → TwoRuns d t layer octave s out
