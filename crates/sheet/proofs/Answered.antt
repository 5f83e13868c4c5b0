-- What an answer says of the checks and the room, and what lies in the lent list afterwards. Assumes nothing.
use mathlib.Core.Path.{◌≡◌, refl, ap, ◌∙◌}
use mathlib.Core.Bool.{Bool, true, false, cond}
use mathlib.Core.List.{List, ◌++◌}
use Prim.Native.Nat.{ℕ, zero, suc, ◌≤◌, ◌<◌}
use native.Mathlib.Nat.{zero-add}
use native.Mathlib.Omega.{arith}
use borrow.Author.Tests.{le-leb, lt-leb, leb-true}
use lib.Dec.{leb}
use lib.ListN.{length, drop}
use Rattle.lists.specs.Pasted.{pasted}
use Rattle.params.specs.Answers.{answer_of, landed, Answer, Done, Short, Refused}

pub answer_refused : (fault count need room : ℕ) → (fault ≡ 0 → ⊥) → answer_of fault count need room ≡ Refused fault
unfolding answer_of
answer_refused zero count need room h = absurd (h refl)
answer_refused (suc k) count need room h = refl

pub answer_short : (fault count need room : ℕ) → fault ≡ 0 → room < need → answer_of fault count need room ≡ Short count
unfolding answer_of
answer_short fault count need room e h = rw (e, lt-leb need room h)

pub answer_done : (fault count need room : ℕ) → fault ≡ 0 → need ≤ room → answer_of fault count need room ≡ Done count
unfolding answer_of
answer_done fault count need room e h = rw (e, le-leb need room h)

-- what 0 says
room_told : (b : Bool) (count n : ℕ) → cond b (Done count) (Short count) ≡ Done n → (b ≡ true) × (count ≡ n)
room_told true count n e = (refl, cc)
room_told false count n e = absurd (let z : ◌≡◌ {A = ℕ} 0 1 = cc in omega arith)

pub done_told : (fault count need room n : ℕ) → answer_of fault count need room ≡ Done n → (fault ≡ 0) × (need ≤ room) × (count ≡ n)
unfolding answer_of
done_told zero count need room n e = let b = room_told (leb need room) count n e in (refl, leb-true need room b.0, b.1)
done_told (suc k) count need room n e = absurd (let z : ◌≡◌ {A = ℕ} 0 1 = cc in omega arith)

-- written at the front: the new list, then what it did not reach
pub pasted_front : (new old : List ℕ) (n : ℕ) → length new ≡ n → pasted 0 new old ≡ new ++ drop n old
unfolding pasted
pasted_front new old n e = ap (λ (k : ℕ). new ++ drop k old) (zero-add (length new) ∙ e)

pub landed_front : (a : Answer) (new old : List ℕ) (k n : ℕ) → a ≡ Done k → length new ≡ n → landed a new old ≡ new ++ drop n old
landed_front a new old k n e h = ap (λ (x : Answer). landed x new old) e ∙ pasted_front new old n h
