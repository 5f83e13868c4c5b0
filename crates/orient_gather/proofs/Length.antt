-- How long a run of cells is. Assumes nothing.
use Prim.Native.Nat.{ℕ, ◌+◌, ◌-◌, ◌%◌, ◌<◌, ◌≤◌, min}
use mathlib.Core.Path.{◌≡◌, refl, ◌∙◌}
use mathlib.Core.Logic.{⊎_elim}
use native.Mathlib.Omega.{arith}
use borrow.Author.Tests.{le-leb, lt-leb}
use lib.Dec.{leb}
use Rattle.lists.proofs.Naturals.{le_or_lt}
use Rattle.orient_window.specs.declared.Window.{Window}
use Rattle.orient_tally.specs.Tally.{early}
use Rattle.orient_gather.specs.Runs.{run_length}

pub length_late : (win : Window) (n k m : ℕ) → early n ≤ k → m ≡ win.cols - k % win.cols → m ≡ run_length win n k
unfolding run_length
length_late win n k m h z = z ∙ rw (le-leb (early n) k h)

pub length_early : (win : Window) (n k m : ℕ) → k < early n → m ≡ min (early n - k) (win.cols - k % win.cols) → m ≡ run_length win n k
unfolding run_length
length_early win n k m h z = z ∙ rw (lt-leb (early n) k h)

-- it has a cell, it does not leave the row, and all of its cells are early, or all are late
pub record Length (e k rest m : ℕ) : Type 0 where
  pub some : 0 < m
  pub inside : m ≤ rest
  pub alike : (i : ℕ) → i < m → leb e (k + i) ≡ leb e k

pub length_of : (win : Window) (n k : ℕ) → k % win.cols < win.cols → Length (early n) k (win.cols - k % win.cols) (run_length win n k)
length_of win n k h =
    ⊎_elim
    (λ l. rw (← length_late win n k (win.cols - k % win.cols) l refl) (record { some = omega arith; inside = omega arith; alike = λ i b. rw (le-leb (early n) k l) (le-leb (early n) (k + i) (omega arith)) }))
    (λ l. rw (← length_early win n k (min (early n - k) (win.cols - k % win.cols)) l refl) (record { some = omega arith; inside = omega arith; alike = λ i b. rw (lt-leb (early n) k l) (lt-leb (early n) (k + i) (omega arith)) }))
    (le_or_lt (early n) k)
