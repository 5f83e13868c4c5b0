-- The words that a record goes in and comes out as. Definitions only.
use Rattle.std.specs.Prelude.{Bool, true, ◌&&◌, cond, List, [], ◌∷◌, ◌++◌, ℕ, ◌-◌, eqb, get_or, take, drop}
use Rattle.params.specs.Limits.{value_count}
use Rattle.sheet.specs.Layout.{Layout}

-- rule S7: the words of a record as the writer takes them, five whole numbers, five floats and 128 values; and as the reader gives them, one more
abbrev pub plain_words : ℕ
plain_words = 138

abbrev pub read_words : ℕ
read_words = 139

-- of these the five whole numbers, the five floats, and both; and the place of the layer
abbrev pub head_words : ℕ
head_words = 5

abbrev pub float_words : ℕ
float_words = 5

abbrev pub front_words : ℕ
front_words = 10

abbrev pub layer_place : ℕ
layer_place = 3

-- the slots of a record's head, the whole numbers and blank and the zero bits; and those before its 128 values
abbrev pub head_fields : ℕ
head_fields = 7

abbrev pub front_fields : ℕ
front_fields = 12

-- how many words the writer takes for a record: the blank word too, where the layout has a bit for it
abbrev pub taken_words : Layout → ℕ
taken_words l = cond l.marked read_words plain_words

-- the values of a record's slots, from its words: the whole numbers; the blank word, 0 where none is handed in; 0; the floats and the values
unfoldable pub filled : List ℕ → List ℕ
filled w = take head_words w ++ (get_or w plain_words 0 ∷ 0 ∷ take (plain_words - head_words) (drop head_words w))

unfoldable pub all_zero : List ℕ → Bool
all_zero [] = true
all_zero (v ∷ vs) = eqb v 0 && all_zero vs

-- rule S8, where the layout has no blank bit: values that are all 0 leave it unknown, 2, whether any cell was read for them
abbrev pub unknown_of : List ℕ → ℕ
unknown_of values = cond (all_zero values) 2 0

-- the added word: the blank bit where the layout has one
abbrev pub blank_word : Layout → List ℕ → ℕ
blank_word l v = cond l.marked (get_or v head_words 0) (unknown_of (drop front_fields v))

-- a record's words as the reader gives them, from the values of its slots
unfoldable pub worded : Layout → List ℕ → List ℕ
worded l v = take head_words v ++ (drop head_fields v ++ (blank_word l v ∷ []))

-- a record's words as they were handed in, with the added word
unfoldable pub with_blank : Layout → List ℕ → List ℕ
with_blank l w = take plain_words w ++ (cond l.marked (get_or w plain_words 0) (unknown_of (take value_count (drop front_words w))) ∷ [])
