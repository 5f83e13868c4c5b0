-- Whether a cell is an extremum among its 26 neighbours, rule D3, whatever the order of the search. Definitions only.
use Rattle.std.specs.Prelude.{ℕ, ◌+◌, ◌-◌, Bool, ◌&&◌, ◌||◌, cond, List, eqb, Float}
use Rattle.ieee.specs.F32.{◌<ᶠ◌, ◌≤ᶠ◌, abs_of}
use Rattle.ieee.specs.Numbers.{nought}
use Rattle.lists.specs.Ranges.{every}
use Rattle.picture.specs.Stack.{sample}
use Rattle.picture.specs.declared.Shape.{Shape}

-- How a cell is compared with a neighbour. The source's rule allows ties.
pub data Rule : Type 0 where
  tied : Rule

-- by the rule, a stands up as the larger beside b
abbrev pub larger : Rule → Float → Float → Bool
larger tied a b = b ≤ᶠ a

-- v stands beside its neighbour n: as the larger where `up`, else as the smaller
abbrev pub keeps_as : Rule → Bool → Float → Float → Bool
keeps_as rule up v n = cond up (larger rule v n) (larger rule n v)

-- a positive cell v has to be the larger beside its neighbour n, any other the smaller
abbrev pub keeps_over : Rule → Float → Float → Bool
keeps_over rule v n = keeps_as rule (nought <ᶠ v) v n

-- (1, 1, 1) is the cell itself
abbrev pub centre : ℕ → ℕ → ℕ → Bool
centre i j k = eqb i 1 && (eqb j 1 && eqb k 1)

-- the neighbour i, j, k, each from 0 to 2, of the cell (p, r, c)
unfoldable pub passes : Rule → List Float → Shape → ℕ → ℕ → ℕ → ℕ → ℕ → ℕ → Bool
passes rule d t p r c i j k =
    centre i j k || keeps_over rule (sample d t p r c) (sample d t (p + i - 1) (r + j - 1) (c + k - 1))

-- no neighbour of the 26 beats it
unfoldable pub is_extremum : Rule → List Float → Shape → ℕ → ℕ → ℕ → Bool
is_extremum rule d t p r c = every 3 (λ i. every 3 (λ j. every 3 (λ k. passes rule d t p r c i j k)))

-- the magnitude exceeds the threshold
unfoldable pub loud : Float → Float → Bool
loud threshold v = threshold <ᶠ abs_of v

-- a candidate: loud, and an extremum
unfoldable pub candidate : Rule → Float → List Float → Shape → ℕ → ℕ → ℕ → Bool
candidate rule threshold d t p r c = loud threshold (sample d t p r c) && is_extremum rule d t p r c
