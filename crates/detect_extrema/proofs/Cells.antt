-- What is decided of one cell: how a neighbour passes, and what the cell gives. Assumes nothing.
use Rattle.std.specs.Prelude.{option_to_list}
use Prim.Native.Nat.{ℕ, ◌+◌, ◌-◌}
use mathlib.Core.Path.{◌≡◌, refl, sym, subst}
use mathlib.Core.Bool.{Bool, true, false, ◌||◌}
use mathlib.Core.List.{List, []}
use lib.Ieee.{Float}
use Rattle.lists.proofs.Bools.{or_right}
use Rattle.ieee.specs.F32.{◌<ᶠ◌}
use Rattle.ieee.specs.Numbers.{nought}
use Rattle.picture.specs.Stack.{sample}
use Rattle.picture.specs.declared.Shape.{Shape}
use Rattle.detect_refine.specs.Settle.{refine_of}
use Rattle.detect_keypoint.specs.declared.Search.{Search}
use Rattle.detect_extrema.specs.Neighbours.{tied, keeps_as, keeps_over, centre, passes, is_extremum, loud, candidate}
use Rattle.detect_extrema.specs.Scan.{cell_of, found}

-- what the code compared is what the definition compares
pub kept_as : (b up : Bool) (v n v' n' : Float) → b ≡ keeps_as tied up v n → n ≡ n' → v ≡ v' → up ≡ (nought <ᶠ v) → keeps_over tied v' n' ≡ b
kept_as b up v n v' n' e p q u = rw (← p, ← q, ← u) (sym e)

module _ (d : List Float) (t : Shape) (p r c i j k : ℕ) where
  abbrev other : Float
  other = sample d t (p + i - 1) (r + j - 1) (c + k - 1)

  pub pass_centre : centre i j k ≡ true → passes tied d t p r c i j k ≡ true
  unfolding passes
  pass_centre e = subst (λ (b : Bool). (b || keeps_over tied (sample d t p r c) other) ≡ true) (sym e) refl

  pub pass_kept : keeps_over tied (sample d t p r c) other ≡ true → passes tied d t p r c i j k ≡ true
  unfolding passes
  pass_kept e = or_right (centre i j k) _ e

  pub pass_none : centre i j k ≡ false → keeps_over tied (sample d t p r c) other ≡ false → passes tied d t p r c i j k ≡ false
  unfolding passes
  pass_none e q = subst (λ (b : Bool). (b || keeps_over tied (sample d t p r c) other) ≡ false) (sym e) q

module _ (d : List Float) (t : Shape) (s : Search) (r c : ℕ) where
  abbrev here : Float
  here = sample d t s.layer r c

  pub found_quiet : loud s.threshold here ≡ false → found tied d t s r c ≡ []
  unfolding found candidate
  found_quiet e = rw e

  pub found_yes : loud s.threshold here ≡ true → is_extremum tied d t s.layer r c ≡ true → found tied d t s r c ≡ option_to_list (refine_of d t s (cell_of s r c))
  unfolding found candidate
  found_yes e g = rw (e, g)

  pub found_no : loud s.threshold here ≡ true → is_extremum tied d t s.layer r c ≡ false → found tied d t s r c ≡ []
  unfolding found candidate
  found_no e g = rw (e, g)
