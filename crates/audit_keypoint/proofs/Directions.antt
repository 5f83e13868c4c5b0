-- The loop over directions: none of them, and one more. Assumes nothing.
use Prim.Native.Nat.{ℕ, ◌+◌, ◌-◌, ◌*◌, ◌<◌}
use mathlib.Core.Path.{◌≡◌, sym, ◌∙◌}
use mathlib.Core.Bool.{true, not}
use mathlib.Core.List.{List}
use native.Mathlib.Omega.{arith}
use lib.ListN.{take, drop}
use lib.Ieee.{Float}
use Rattle.orient_words.specs.Oriented.{oriented_words}
use Rattle.sheet.specs.Sheet.{parts}
use Rattle.audit_compare.specs.Standing.{Standing}
use Rattle.audit_keypoint.specs.Steps.{Given, direction_step, direction_steps}
use Rattle.audit_keypoint.proofs.Cut.{fold_none, fold_next, fold_settled}
use Rattle.audit_keypoint.proofs.Direction.{step_over}

module _ (g : Given) (img : List Float) (kw ws : List ℕ) (st : Standing) where
  -- after the first j
  abbrev pub steps_to : ℕ → Standing
  steps_to j = direction_steps g img kw st (parts oriented_words j ws)

  pub steps_none : st ≡ steps_to 0
  unfolding direction_steps
  steps_none = sym (fold_none (direction_step g img kw) st oriented_words ws)

  -- the words of the direction j go from 6 × j to 6 × j + 6
  pub steps_next : (j : ℕ) (now r : Standing) → now ≡ steps_to j →
      r ≡ direction_step g img kw now (take (oriented_words * j + oriented_words - oriented_words * j) (drop (oriented_words * j) ws)) → r ≡ steps_to (j + 1)
  unfolding direction_steps
  steps_next j now r e q =
      let m : oriented_words * j + oriented_words - oriented_words * j ≡ oriented_words = omega arith in
      q ∙ rw (m, e, fold_next (direction_step g img kw) st oriented_words j ws)

  -- where one refuses, so do all
  pub steps_refused : (j n : ℕ) (now r : Standing) → not r.good ≡ true → now ≡ steps_to j → j < n →
      r ≡ direction_step g img kw now (take (oriented_words * j + oriented_words - oriented_words * j) (drop (oriented_words * j) ws)) → r ≡ steps_to n
  unfolding direction_steps
  steps_refused j n now r bad e h q =
      let m : n ≡ j + 1 + (n - (j + 1)) = omega arith in
      rw m (fold_settled (direction_step g img kw) st r (λ w. sym (step_over g img kw w r bad)) oriented_words (j + 1) (n - (j + 1)) ws (steps_next j now r e q))
