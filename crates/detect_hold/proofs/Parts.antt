-- The rows whose keypoints' cells are held, and those behind them: what they leave together, and how many hints they have. Assumes nothing.
use Prim.Native.Nat.{ℕ, suc, ◌+◌, ◌-◌, ◌*◌, ◌/◌, ◌<◌, ◌≤◌}
use mathlib.Core.Path.{◌≡◌, refl, sym, ap, ◌∙◌}
use mathlib.Core.List.{List, [], ◌∷◌, ◌++◌}
use native.Mathlib.Nat.{le_trans, mul-le-mul}
use native.Mathlib.Omega.{arith}
use lib.ListN.{length, take, drop, set, length-append}
use lib.Seq.{sets, sets-eq, length-sets, length-take-le, take-set-le, take_at}
use lib.Ieee.{Float}
use Rattle.lists.proofs.Both.{joined_shorter}
use Rattle.lists.proofs.Ranges.{joined_start, joined_more, joined_split, joined_bound, sets_append}
use Rattle.params.specs.Limits.{border, max_side, keypoint_words}
use Rattle.picture.specs.declared.Shape.{Shape}
use Rattle.detect_refine.specs.Place.{Searched}
use Rattle.detect_keypoint.specs.declared.Search.{Search}
use Rattle.detect_extrema.specs.Neighbours.{tied}
use Rattle.detect_extrema.specs.Scan.{row_of, keypoints, words}
use Rattle.detect_look.specs.Hints.{hinted}
use Rattle.detect_look.proofs.Counted.{hinted_bound, cells_hinted}
use Rattle.detect_words.specs.declared.Form.TheVariants.{CellWord, KeypointWords}
use Rattle.detect_rows.specs.Forms.{row_leaves, rows_leave, all_again}
use Rattle.detect_words.proofs.Words.{length_words, words_append}
use Rattle.detect_rows.proofs.Forms.{rows_of, rows_left, rows_count, rows_again}
use Rattle.detect_hold.specs.Front.{Holds, rows_hinted}
use Rattle.detect_hold.proofs.Few.{keypoints_few}

module _ (d : List Float) (t : Shape) (s : Search) where
  -- ---- hints of rows
  pub hints_none : (from : ℕ) → 0 ≡ length (rows_hinted d t s from from)
  unfolding rows_hinted
  hints_none from = rw (joined_start from (λ r. hinted d t s r border (t.width - border)))

  pub hints_more : (from r n x : ℕ) → from ≤ r → n ≡ length (rows_hinted d t s from r) → x ≡ length (hinted d t s r border (t.width - border)) → n + x ≡ length (rows_hinted d t s from (r + 1))
  unfolding rows_hinted
  hints_more from r n x l p q = rw (joined_more from r (λ r. hinted d t s r border (t.width - border)) l, length-append, p, q)

  -- a row has no more of them than cells
  pub row_hints : (r lo hi x : ℕ) → x ≡ length (hinted d t s r lo hi) → x ≤ hi - lo
  row_hints r lo hi x e = rw e (hinted_bound d t s r lo hi)

  pub hints_few : (from r : ℕ) → r ≤ max_side → t.width ≤ max_side → length (rows_hinted d t s from r) ≤ max_side * max_side
  unfolding rows_hinted
  hints_few from r a b =
      le_trans (joined_bound (t.width - border - border) from r (λ r. hinted d t s r border (t.width - border)) (λ r. hinted_bound d t s r border (t.width - border)))
      (mul-le-mul {n₁ = r - from} {m₁ = t.width - border - border} {n₂ = max_side} {m₂ = max_side} (omega arith) (omega arith))

  -- they give no more keypoints than that
  pub rows_hinted_lem : (lo hi : ℕ) → length (rows_of d t s lo hi) ≤ length (rows_hinted d t s lo hi)
  unfolding rows_hinted row_of
  rows_hinted_lem lo hi = joined_shorter lo hi _ _ (λ r _ _. cells_hinted d t s r border (t.width - border))

  -- all rows leave the words of all keypoints
  pub all_left : rows_leave KeypointWords d t s border (t.height - border) ≡ words (keypoints tied d t s)
  unfolding keypoints
  all_left = rows_left d t s border (t.height - border)

  -- ---- the keypoints of a layer are those of the rows above one, and those of the rest
  module _ (r : ℕ) (above : border ≤ r) (below : r ≤ t.height - border) where
    parts : keypoints tied d t s ≡ rows_of d t s border r ++ rows_of d t s r (t.height - border)
    unfolding keypoints
    parts = sym (joined_split border r (t.height - border) (λ r. row_of tied d t s r) above below)

    pub parts_count : length (keypoints tied d t s) ≡ length (rows_of d t s border r) + length (rows_of d t s r (t.height - border))
    parts_count = rw (parts, length-append)

    -- the words of the first written, and those of the rest behind them
    pub parts_written : (old mid new : List ℕ) (k : ℕ) → k ≡ length (rows_of d t s border r) → mid ≡ sets old 0 (words (rows_of d t s border r)) → new ≡ sets mid (keypoint_words * k) (words (rows_of d t s r (t.height - border)))
        → new ≡ sets old 0 (words (keypoints tied d t s))
    parts_written old mid new k n e f =
        let z : keypoint_words * k ≡ 0 + length (words (rows_of d t s border r)) = omega (arith, length_words (rows_of d t s border r), n) in
        f ∙ rw (e, z, sets_append, parts, words_append)

-- ---- what is held, row by row

-- what is written behind the first n leaves them as they are
take_behind : {A : Type 0} (n : ℕ) (l vs : List A) (i : ℕ) → n ≤ i → take n (sets l i vs) ≡ take n l
take_behind n l [] i h = refl
take_behind n l (v ∷ vs) i h = take_behind n (set l i v) vs (suc i) (omega arith) ∙ take-set-le n l i v h

-- what fits is then the next of them
take_with : {A : Type 0} (n : ℕ) (l vs : List A) → n + length vs ≤ length l → take (n + length vs) (sets l n vs) ≡ take n l ++ vs
take_with {A} n l vs h =
    let z : length (take n l) ≡ n = length-take-le n l (omega arith) in
    let rest = drop (n + length vs) l in
    ap (λ (x : List A). take (n + length vs) x) (sets-eq vs l n h)
    ∙ take_at (take n l ++ vs) rest (n + length vs) (rw (length-append, z))

module _ (d : List Float) (t : Shape) (s : Search) where
  pub held_none : (hold : List ℕ) → 2 * border < t.height → Holds d t s border 0 hold
  unfolding rows_leave
  held_none hold h =
      let e = joined_start border (λ r. row_leaves CellWord d t s r) in
      record { above = omega arith; below = omega arith; count = rw e; fits = omega arith; cells = rw e }

  module _ (r n m : ℕ) (hold new : List ℕ) (k : Holds d t s r n hold) (e : new ≡ sets hold n (row_leaves CellWord d t s r)) where
    pub held_kept : Holds d t s r n new
    held_kept =
        record { above = k.above; below = k.below; count = k.count; fits = rw (e, length-sets) k.fits; cells = rw e (take_behind n hold (row_leaves CellWord d t s r) n (omega arith)) ∙ k.cells }

    pub held_more : r < t.height - border → m ≡ length (row_leaves CellWord d t s r) → m ≤ length hold - n → Holds d t s (r + 1) (n + m) new
    unfolding rows_leave
    held_more l q f =
        let j = joined_more border r (λ r. row_leaves CellWord d t s r) k.above in
        record {
          above = omega (arith, k.above);
          below = omega arith;
          count = rw (j, length-append) (omega (arith, k.count, q));
          fits = rw (e, length-sets) (omega (arith, k.fits));
          cells = rw (e, j, q) (take_with n hold (row_leaves CellWord d t s r) (omega (arith, k.fits, q)) ∙ rw k.cells);
        }

  -- ---- all of them written: the cells that are held refined again, and the rest searched
  module _ (len : ℕ) (q : Searched len t s) (r k : ℕ) (hold : List ℕ) (h : Holds d t s r k hold) where
    pub held_count : k ≡ length (rows_of d t s border r)
    held_count = h.count ∙ rows_count d t s border r

    pub held_again : all_again d t s (take k hold) ≡ words (rows_of d t s border r)
    held_again = ap (all_again d t s) h.cells ∙ rows_again d t s len q border r

    pub all_counted : (n : ℕ) → n ≡ length (rows_leave KeypointWords d t s r (t.height - border)) → k + n / keypoint_words ≡ length (keypoints tied d t s)
    all_counted n e =
        let rest = rows_of d t s r (t.height - border) in
        let z : n ≡ keypoint_words * length rest = e ∙ ap length (rows_left d t s r (t.height - border)) ∙ length_words rest in
        let c = parts_count d t s r h.above h.below in
        omega (arith, held_count)

    pub held_most : (x : ℕ) → x ≡ length (rows_hinted d t s r (t.height - border)) → length (keypoints tied d t s) ≤ k + x
    held_most x e =
        omega (arith, held_count, parts_count d t s r h.above h.below, rows_hinted_lem d t s r (t.height - border), e)

    pub held_all : (x : ℕ) → x ≡ length (rows_leave CellWord d t s r (t.height - border)) → k + x ≡ length (keypoints tied d t s)
    held_all x e =
        omega (arith, held_count, parts_count d t s r h.above h.below, rows_count d t s r (t.height - border), e)

    -- so few that no sum of places wraps
    pub held_few : k ≤ max_side * max_side
    held_few =
        omega (arith, held_count, parts_count d t s r h.above h.below, keypoints_few d t s len q)
