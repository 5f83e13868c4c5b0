-- Inner: what a table of guesses has to be, so that no sum of its numbers overflows. Definitions only.
use Rattle.std.specs.Prelude.{ℕ, ◌*◌, ◌^◌, Bool, true, false, ◌&&◌, List, [], ◌∷◌, length, ◌==◌, nat_le, Float}
use Rattle.std.specs.Float.{nan, inf, fin}
use Rattle.std.specs.Float.Ieee.{up, down}

-- finite, and no more than 2 ^ k in size
unfoldable pub small : ℕ → Float → Bool
small k nan = false
small k (inf s) = false
small k (fin s m e) = nat_le (m * up e) (2 ^ k * down e)

-- each is a number of no more than 2 ^ 24 in size
unfoldable pub each_mild : List Float → Bool
unfolding small
each_mild [] = true
each_mild (x ∷ xs) = small 24 x && each_mild xs

-- the pieces of a table, and its numbers, four of a piece
abbrev pub pieces : ℕ
pieces = 64

abbrev pub table_size : ℕ
table_size = 256

-- a whole table of them: the type of a lent array tells a proof nothing of its length
unfoldable pub all_mild : List Float → Bool
unfolding each_mild
all_mild l = length l == table_size && each_mild l
