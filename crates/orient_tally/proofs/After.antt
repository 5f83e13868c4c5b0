-- The tally of a window's first samples, and what one more does to it. Assumes nothing.
use Prim.Native.Nat.{ℕ, suc, ◌+◌, ◌*◌, ◌<◌}
use mathlib.Core.Path.{◌≡◌, refl, sym, ◌∙◌}
use mathlib.Core.List.{List, [], ◌∷◌, ◌++◌}
use native.Mathlib.Nat.{add-zero}
use native.Mathlib.Numerals.{add-one}
use native.Mathlib.Omega.{arith}
use lib.ListN.{length, take, get_or, length-take}
use lib.Seq.{take-suc, take-length}
use lib.Ieee.{Float}
use Rattle.orient_window.specs.Window.{Cell, cells_of, cells_read}
use Rattle.orient_window.specs.Place.{cell_at}
use Rattle.orient_window.specs.declared.Window.{Window}
use Rattle.orient_window.proofs.Cells.{read_is, cell_at_lem}
use Rattle.orient_tally.specs.Tally.{counted, sample_of, tallied, empty, tally_of}
use Rattle.orient_tally.specs.declared.Tally.{Tally}
use Rattle.orient_tally.specs.declared.Sample.{Sample}

counted_append : (f : ℕ → Cell → Sample) (k : ℕ) (a b : List Cell) (t : Tally) → counted f k (a ++ b) t ≡ counted f (k + length a) b (counted f k a t)
unfolding counted
counted_append f k [] b t = rw add-zero
counted_append f k (c ∷ a) b t = let z : k + suc (length a) ≡ (k + 1) + length a = omega arith in rw (z, counted_append f (k + 1) a b (tallied t (f k c)))

-- the first k samples
unfoldable pub after : List Float → Window → ℕ → Tally
after img win k = counted (sample_of img win (cells_read win)) 0 (take k (cells_of win)) empty

pub after_none : (img : List Float) (win : Window) → empty ≡ after img win 0
unfolding after counted
after_none img win = refl

pub after_more : (img : List Float) (win : Window) (n k : ℕ) (s : Sample) (t : Tally) → n ≡ win.rows * win.cols → k < n → s ≡ sample_of img win n k (cell_at win k) → t ≡ tallied (after img win k) s → t ≡ after img win (k + 1)
unfolding after counted cells_read
after_more img win n k s t a h p e =
    let l : length (cells_of win) ≡ n = read_is win ∙ sym a in
    let h' : k < win.rows * win.cols = omega arith in
    let z : 0 + length (take k (cells_of win)) ≡ k = simp length-take (omega arith) in
    let f = sample_of img win (length (cells_of win)) in
    e ∙ rw (add-one, take-suc (cells_of win) k (cell_at win k) (omega arith), counted_append f 0 (take k (cells_of win)) (get_or (cells_of win) k (cell_at win k) ∷ []) empty, z, cell_at_lem win k (cell_at win k) h', p, l)

pub after_all : (img : List Float) (win : Window) (n : ℕ) → n ≡ win.rows * win.cols → after img win n ≡ tally_of img win
unfolding after tally_of cells_read
after_all img win n a = let z : n ≡ length (cells_of win) = a ∙ sym (read_is win) in rw (z, take-length)
