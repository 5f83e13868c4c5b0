-- Two ways to go through a range of numbers: every one passes a test, and the lists of a range one after the other. Definitions only.
use Rattle.std.specs.Prelude.{ℕ, zero, suc, Bool, true, ◌&&◌, cond, List, [], ◌++◌, leb}

-- each number below n passes the test
unfoldable pub every : ℕ → (ℕ → Bool) → Bool
every zero test = true
every (suc n) test = every n test && test n

-- part lo ++ part (lo + 1) ++ .. ++ part (hi - 1), and nothing where hi is not above lo
unfoldable pub joined {ℓ} : {A : Type ℓ} → ℕ → ℕ → (ℕ → List A) → List A
joined lo zero part = []
joined lo (suc hi) part = cond (leb lo hi) (joined lo hi part ++ part hi) []
