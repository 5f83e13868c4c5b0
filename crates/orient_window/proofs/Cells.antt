-- Laws of a window's cells: how many there are, and where each lies. Assumes nothing.
use Rattle.std.proofs.Common.{◌≡◌, ℕ, zero, suc, ◌+◌, ◌*◌, ◌/◌, ◌%◌, ◌<◌, List, [], ◌∷◌, ◌++◌, length, get_or, sym, refl, ap, ◌∙◌, ⊎_elim, le_of_suc-le-suc, add-zero, mod-lt, suc-mul, div-lt_iff_lt-mul, eq-or-lt_of_le, mul-zero, div-add-mod', zero-mul, arith, length-append, get_or-append-add}
use lib.ListN.{get_or-append}
use Rattle.lists.proofs.Naturals.{packed}
use Rattle.lists.specs.Ranges.{joined}
use Rattle.lists.proofs.Ranges.{joined_start, joined_more}
use Rattle.picture.specs.Place.{Around}
use Rattle.orient_window.specs.Window.{Cell, cell, row_of, cells_of, cells_read}
use Rattle.orient_window.specs.Place.{Fits, cell_at}
use Rattle.orient_window.specs.declared.Window.{Window}

-- ---- parts of one length, joined
module _ {A : Type 0} (lo m : ℕ) (f : ℕ → List A) (e : (i : ℕ) → length (f i) ≡ m) where
  one_more : (n : ℕ) → joined lo (lo + suc n) f ≡ joined lo (lo + n) f ++ f (lo + n)
  one_more n = let z : lo + suc n ≡ (lo + n) + 1 = omega arith in rw (z, joined_more lo (lo + n) f (omega arith))

  pub length_parts : (n : ℕ) → length (joined lo (lo + n) f) ≡ n * m
  length_parts zero = rw (add-zero, joined_start lo f, zero-mul)
  length_parts (suc n) = rw (one_more n, length-append, length_parts n, e (lo + n), suc-mul)

  pub part_at : (n : ℕ) (d : A) (i j : ℕ) → i < n → j < m → get_or (joined lo (lo + n) f) (i * m + j) d ≡ get_or (f (lo + i)) j d
  part_at zero d i j a b = absurd (omega arith)
  part_at (suc n) d i j a b =
      rw (one_more n)
      (⊎_elim
      (λ q. let p : i ≡ n = omega arith in let z : i * m + j ≡ length (joined lo (lo + n) f) + j = ap (λ (x : ℕ). x * m + j) p ∙ rw (length_parts n) in rw (z, get_or-append-add, p))
      (λ l. let z : i * m + j < length (joined lo (lo + n) f) = rw (length_parts n) (packed l b) in rw (get_or-append (joined lo (lo + n) f) (f (lo + n)) d (i * m + j) z) (part_at n d i j l b))
      (eq-or-lt_of_le (le_of_suc-le-suc a)))

-- ---- the cells
length_row : (win : Window) (y : ℕ) → length (row_of win y) ≡ win.cols
unfolding row_of
length_row win y = length_parts win.left 1 (λ x. cell y x ∷ []) (λ i. refl) win.cols ∙ omega arith

-- n is the closed form: rows × columns
pub read_is : (win : Window) → cells_read win ≡ win.rows * win.cols
unfolding cells_read cells_of
read_is win = length_parts win.top win.cols (row_of win) (length_row win) win.rows

row_at : (win : Window) (y j : ℕ) (d : Cell) → j < win.cols → get_or (row_of win y) j d ≡ cell y (win.left + j)
unfolding row_of
row_at win y j d h =
    let z : j ≡ j * 1 + 0 = omega arith in
    ap (λ (k : ℕ). get_or (joined win.left (win.left + win.cols) (λ x. cell y x ∷ [])) k d) z
    ∙ part_at win.left 1 (λ x. cell y x ∷ []) (λ i. refl) win.cols d j 0 h (omega arith)

-- the cell in row i and column j of the window
pub cell_in : (win : Window) (i j : ℕ) (d : Cell) → i < win.rows → j < win.cols → get_or (cells_of win) (i * win.cols + j) d ≡ cell (win.top + i) (win.left + j)
unfolding cells_of
cell_in win i j d a b = part_at win.top win.cols (row_of win) (length_row win) win.rows d i j a b ∙ row_at win (win.top + i) j d b

pub some_cols : (r c k : ℕ) → k < r * c → 0 < c
some_cols r zero k h = absurd (omega (arith, mul-zero r))
some_cols r (suc c) k h = omega arith

-- where the k-th cell lies
pub cell_at_lem : (win : Window) (k : ℕ) (d : Cell) → k < win.rows * win.cols → get_or (cells_of win) k d ≡ cell_at win k
unfolding cells_of
cell_at_lem win k d h =
    let c = some_cols win.rows win.cols k h in
    ap (λ (i : ℕ). get_or (cells_of win) i d) (sym (div-add-mod' k win.cols))
    ∙ part_at win.top win.cols (row_of win) (length_row win) win.rows d (k / win.cols) (k % win.cols) ((div-lt_iff_lt-mul c).1 h) (mod-lt k c)
    ∙ row_at win (win.top + k / win.cols) (k % win.cols) d (mod-lt k c)

-- ---- the cells lie in the picture, with their neighbours
pub cell_around : {len : ℕ} {win : Window} → Fits len win → (i j : ℕ) → i < win.rows → j < win.cols → Around len win.size (win.top + i) (win.left + j)
cell_around f i j a b = record { whole = f.whole; up = omega arith; down = omega arith; left = omega arith; right = omega arith }

-- the row and the column of the cell after k others
pub record At (win : Window) (k : ℕ) : Type 0 where
  pub some : 0 < win.cols
  pub row : k / win.cols < win.rows
  pub col : k % win.cols < win.cols

pub at_cell : (win : Window) (n k : ℕ) → n ≡ win.rows * win.cols → k < n → At win k
at_cell win n k e h =
    let h' : k < win.rows * win.cols = omega arith in
    let c = some_cols win.rows win.cols k h' in
    record { some = c; row = (div-lt_iff_lt-mul c).1 h'; col = mod-lt k c }
