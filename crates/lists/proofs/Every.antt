-- The laws of `every`: one more number passes, the first that fails decides, and the statement about each number. Assumes nothing.
use Prim.Native.Nat.{ℕ, zero, suc, ◌+◌, ◌<◌}
use mathlib.Core.Path.{◌≡◌, refl, ap}
use mathlib.Core.Bool.{Bool, true, false, ◌&&◌}
use mathlib.Core.Logic.{⊎_elim}
use native.Mathlib.Nat.{eq-or-lt_of_le, le_of_suc-le-suc}
use native.Mathlib.Numerals.{add-one}
use native.Mathlib.Omega.{arith}
use Rattle.lists.proofs.Bools.{and_false, and_left, and_right}
use Rattle.lists.specs.Ranges.{every}

pub every_none : (test : ℕ → Bool) → every 0 test ≡ true
unfolding every
every_none test = refl

pub every_more : (k : ℕ) (test : ℕ → Bool) → every k test ≡ true → test k ≡ true → every (k + 1) test ≡ true
unfolding every
every_more k test a b = rw (add-one, a, b)

pub every_step : (k : ℕ) (test : ℕ → Bool) → (every k test && test k) ≡ every (k + 1) test
unfolding every
every_step k test = rw add-one

pub every_to : {n m : ℕ} (test : ℕ → Bool) → n ≡ m → every n test ≡ every m test
every_to test e = ap (λ (k : ℕ). every k test) e

pub every_stop : (n k : ℕ) (test : ℕ → Bool) → k < n → test k ≡ false → every n test ≡ false
unfolding every
every_stop zero k test h e = absurd (omega arith)
every_stop (suc n) k test h e =
    ⊎_elim
    (λ q. rw (← q, e, and_false))
    (λ l. rw (every_stop n k test l e))
    (eq-or-lt_of_le (le_of_suc-le-suc h))

pub every_all : (n : ℕ) (test : ℕ → Bool) → every n test ≡ true → (i : ℕ) → i < n → test i ≡ true
unfolding every
every_all zero test e i h = absurd (omega arith)
every_all (suc n) test e i h =
    ⊎_elim
    (λ q. rw q (and_right (every n test) (test n) e))
    (λ l. every_all n test (and_left (every n test) (test n) e) i l)
    (eq-or-lt_of_le (le_of_suc-le-suc h))

pub all_every : (n : ℕ) (test : ℕ → Bool) → ((i : ℕ) → i < n → test i ≡ true) → every n test ≡ true
unfolding every
all_every zero test h = refl
all_every (suc n) test h = rw (all_every n test (λ i l. h i (omega arith)), h n (omega arith))
