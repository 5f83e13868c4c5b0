-- Where two lists of fields first differ, and the fields of a record that the rules give (rules C5 and C7). Definitions only.
use Rattle.std.specs.Prelude.{ℕ, suc, Bool, cond, List, [], ◌∷◌, eqb, get_or, take}
use Rattle.sheet.specs.Layout.{Layout}
use Rattle.sheet.specs.Words.{taken_words, filled}

-- the first place at which two lists of one length differ, where the first of all is numbered `at`; 0 where there is none
unfoldable pub differs_from : ℕ → List ℕ → List ℕ → ℕ
differs_from at [] ys = 0
differs_from at (x ∷ xs) [] = 0
differs_from at (x ∷ xs) (y ∷ ys) = cond (eqb x y) (differs_from (suc at) xs ys) at

-- fields are numbered from 1
abbrev pub first_difference : List ℕ → List ℕ → ℕ
first_difference xs ys = differs_from 1 xs ys

-- the place of the octave among a record's fields
abbrev pub octave_place : ℕ
octave_place = 2

-- the values of the slots of a record, of its 139 words: as the writer of the layout fills them
abbrev pub fields_of : Layout → List ℕ → List ℕ
fields_of l r = filled (take (taken_words l) r)

-- the octave that a record's fields state is this one
abbrev pub of_octave : ℕ → List ℕ → Bool
of_octave octave v = eqb (get_or v octave_place 0) octave
