-- The difference of two places, with its sign. Assumes nothing.
use Prim.Native.Nat.{ℕ, zero, suc, ◌-◌, ◌<◌, ◌≤◌}
use mathlib.Core.Path.{◌≡◌, ap}
use mathlib.Core.Logic.{⊎_elim}
use native.Mathlib.Omega.{arith}
use borrow.Author.Tests.{lt-ltb, le-ltb}
use lib.IntN.{pos, negsuc, ◌-ℤ◌}
use lib.Signed.{mag}
use Rattle.lists.proofs.Naturals.{le_or_lt}

pub diff_up : (a b : ℕ) → b ≤ a → pos a -ℤ pos b ≡ pos (a - b)
diff_up a zero h = ap pos (omega arith)
diff_up a (suc b) h = rw (le-ltb a (suc b) h)

pub diff_down : (a b : ℕ) → a < b → pos a -ℤ pos b ≡ negsuc (b - suc a)
diff_down a zero h = absurd (omega arith)
diff_down a (suc b) h = rw (lt-ltb a (suc b) h)

pub mag_diff : (a b n : ℕ) → a < n → b < n → mag (pos a -ℤ pos b) < n
mag_diff a b n h k =
    ⊎_elim
    (λ l. rw (diff_up a b l) (omega arith))
    (λ l. rw (diff_down a b l) (omega arith))
    (le_or_lt b a)
