-- Laws of runs of cells, by which the code goes over a window. Assumes nothing.
use Prim.Native.Nat.{ℕ, ◌+◌, ◌*◌, ◌/◌, ◌%◌, ◌<◌, ◌≤◌}
use mathlib.Core.Path.{◌≡◌, refl, sym, ap, ◌∙◌, subst}
use mathlib.Core.List.{List}
use native.Mathlib.Nat.{div-add-mod', add-mul-div_right, mul-add-mod_self_right, mod-eq_of_lt, div-eq_of_lt, suc-mul, mul-le-mul_right}
use native.Mathlib.Omega.{arith}
use lib.Dec.{leb}
use lib.Ieee.{Float}
use Rattle.orient_window.specs.Window.{cell}
use Rattle.orient_window.specs.Place.{Fits, cell_at}
use Rattle.orient_window.specs.declared.Window.{Window}
use Rattle.orient_window.proofs.Cells.{at_cell, cell_around}
use Rattle.orient_tally.specs.Tally.{early, sample_of, tallied}
use Rattle.orient_tally.specs.Place.{Placed, Asked, InRange}
use Rattle.orient_tally.specs.Runs.{sample_in}
use Rattle.orient_gather.specs.Runs.{run_of, run_length}
use Rattle.orient_gather.proofs.Length.{length_of}
use Rattle.orient_tally.specs.declared.Sample.{Sample}
use Rattle.orient_tally.specs.declared.Run.{Run}
use Rattle.orient_tally.specs.declared.Tally.{Tally}
use Rattle.orient_tally.proofs.After.{after, after_more}
use Rattle.orient_tally.proofs.Rules.{tally_rule}

-- ---- a cell of a run

row_of : (k c i : ℕ) → 0 < c → k % c + i < c → (k + i) / c ≡ k / c
row_of k c i p h =
    let z : k + i ≡ (k % c + i) + k / c * c = omega (arith, div-add-mod' k c) in
    ap (λ (x : ℕ). x / c) z ∙ add-mul-div_right (k % c + i) (k / c) p ∙ rw (div-eq_of_lt h) (omega arith)

col_of : (k c i : ℕ) → 0 < c → k % c + i < c → (k + i) % c ≡ k % c + i
col_of k c i p h =
    let z : k + i ≡ k / c * c + (k % c + i) = omega (arith, div-add-mod' k c) in
    ap (λ (x : ℕ). x % c) z ∙ mul-add-mod_self_right (k / c) c (k % c + i) ∙ mod-eq_of_lt h

cell_of_lem : (win : Window) (k i : ℕ) → 0 < win.cols → k % win.cols + i < win.cols → cell_at win (k + i) ≡ cell (win.top + k / win.cols) (win.left + k % win.cols + i)
cell_of_lem win k i c h = rw (row_of k win.cols i c h, col_of k win.cols i c h) (ap (cell (win.top + k / win.cols)) (omega arith))

-- what is known of the run of m cells that starts with the cell after k others
pub record Goes (win : Window) (n k : ℕ) (r : Run) (m : ℕ) : Type 0 where
  pub of : r.win ≡ win
  pub row : r.y ≡ win.top + k / win.cols
  pub above : k / win.cols < win.rows
  pub col : r.from ≡ win.left + k % win.cols
  pub some : 0 < m
  pub inside : k % win.cols + m ≤ win.cols
  -- the run ends no later than the cells do
  pub most : k + m ≤ n
  pub alike : (i : ℕ) → i < m → leb (early n) (k + i) ≡ r.late
  pub place : (i : ℕ) → i < m → cell_at win (k + i) ≡ cell r.y (r.from + i)

goes_of : (win : Window) (n k : ℕ) → n ≡ win.rows * win.cols → k < n → Goes win n k (run_of win n k) (run_length win n k)
unfolding run_of
goes_of win n k a h =
    let c = at_cell win n k a h in
    let e = length_of win n k c.col in
    let w = mul-le-mul_right win.cols c.row in
    record {
      of = refl;
      row = refl;
      above = c.row;
      col = refl;
      some = e.some;
      inside = omega (arith, e.inside, c.col);
      most = omega (arith, e.inside, c.col, w, suc-mul (k / win.cols) win.cols, div-add-mod' k win.cols);
      alike = e.alike;
      place = λ i b. cell_of_lem win k i c.some (omega (arith, e.inside, c.col));
    }

pub goes : (win : Window) (n k : ℕ) (r : Run) (m : ℕ) → r ≡ run_of win n k → m ≡ run_length win n k → n ≡ win.rows * win.cols → k < n → Goes win n k r m
goes win n k r m e l a h = rw (e, l) (goes_of win n k a h)

-- the sample of a cell of a run is the one that the tally asks for
sample_as : (img : List Float) (win : Window) (n k i : ℕ) (r : Run) → r.win ≡ win → leb (early n) k ≡ r.late → sample_in img r i ≡ sample_of img win n k (cell r.y (r.from + i))
unfolding sample_in sample_of
sample_as img win n k i r w l = rw (w, l)

pub after_run : (img : List Float) (win : Window) (n k i m : ℕ) (r : Run) (s : Sample) (t : Tally) → n ≡ win.rows * win.cols → Goes win n k r m → i < m
    → s ≡ sample_in img r i → t ≡ tallied (after img win (k + i)) s → t ≡ after img win (k + (i + 1))
after_run img win n k i m r s t a g b p e =
    let y : (k + i) + 1 ≡ k + (i + 1) = omega arith in
    let f : s ≡ sample_of img win n (k + i) (cell_at win (k + i)) = p ∙ sample_as img win n (k + i) i r g.of (g.alike i b) ∙ ap (sample_of img win n (k + i)) (sym (g.place i b)) in
    after_more img win n (k + i) s t a (omega (arith, g.most)) f e ∙ ap (after img win) y

-- a cell of the window lies in the picture with its neighbours, and near the window's middle
placed : {len : ℕ} {win : Window} → Fits len win → (i j : ℕ) → i < win.rows → j < win.cols → Placed len win (win.top + i) (win.left + j)
placed f i j a b = record { around = cell_around f i j a b; near = record { high = omega arith; wide = omega arith; rows = omega arith; cols = omega arith } }

-- and is asked inside the routines' ranges
asked : (img : List Float) (win : Window) → InRange img win → (i j : ℕ) → i < win.rows → j < win.cols → Asked img win (win.top + i) (win.left + j)
asked img win a i j p q = record { place = placed a.fits i j p q; slope = tally_rule.slopes img win i j a.good p q; down = a.down i j p q }

pub asked_in : (img : List Float) (win : Window) (n k i m : ℕ) (r : Run) → InRange img win → Goes win n k r m → i < m → Asked img r.win r.y (r.from + i)
asked_in img win n k i m r a g l =
    let z : win.left + (k % win.cols + i) ≡ win.left + k % win.cols + i = omega arith in
    rw (g.of, g.row, g.col) (subst (λ (v : ℕ). Asked img win (win.top + k / win.cols) v) z (asked img win a (k / win.cols) (k % win.cols + i) g.above (omega (arith, g.inside))))
