-- What is read is good where each row's is. Assumes nothing.
use Prim.Native.Nat.{ℕ, ◌+◌, ◌≤◌}
use mathlib.Core.Path.{◌≡◌, refl}
use mathlib.Core.Bool.{Bool, true, false, not, ◌&&◌, ◌||◌, cond}
use mathlib.Core.List.{List, []}
use lib.Ieee.{Float}
use Rattle.lists.specs.Ranges.{joined}
use Rattle.lists.proofs.Ranges.{joined_start, joined_more}
use Rattle.params.specs.Table.{all_good}
use Rattle.samples.proofs.Runs.{good_append}

-- of a cell that is not used nothing is read
pub good_where : (g : Bool) (xs : List Float) → (not g || all_good xs) ≡ all_good (cond g xs [])
unfolding all_good
good_where true xs = refl
good_where false xs = refl

pub good_none : (lo : ℕ) (f : ℕ → List Float) → true ≡ all_good (joined lo lo f)
unfolding all_good
good_none lo f = rw (joined_start lo f)

pub good_more : (lo hi : ℕ) (f : ℕ → List Float) (ok b : Bool) → lo ≤ hi → ok ≡ all_good (joined lo hi f) → b ≡ all_good (f hi) → (ok && b) ≡ all_good (joined lo (hi + 1) f)
good_more lo hi f ok b h p q = rw (joined_more lo hi f h, good_append (joined lo hi f) (f hi), p, q)
