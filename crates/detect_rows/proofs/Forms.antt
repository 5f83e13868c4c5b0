-- What the search leaves of the keypoints that it finds, part for part: how long it is, that it is their words, and that the cells left give their words again.
-- Assumes nothing.
use Prim.Native.Nat.{ℕ, ◌+◌, ◌-◌, ◌*◌, ◌<◌, ◌≤◌}
use mathlib.Core.Path.{◌≡◌, refl, sym, ap, ◌∙◌}
use mathlib.Core.Bool.{Bool, true, false, cond}
use mathlib.Core.List.{List, [], ◌∷◌, ◌++◌, append_assoc, append-nil}
use native.Mathlib.Nat.{le_trans, mul-le-mul}
use native.Mathlib.Numerals.{add-one}
use native.Mathlib.Omega.{arith}
use lib.ListN.{length, get_or, take, length-append}
use lib.Seq.{take-suc}
use Rattle.std.specs.Prelude.{Option, Some, None, option_to_list}
use lib.Ieee.{Float}
use Rattle.lists.specs.Each.{Each, none}
use Rattle.lists.specs.Ranges.{joined}
use Rattle.lists.proofs.Each.{each_append, each_one, each_at}
use Rattle.lists.proofs.Both.{both_joined}
use Rattle.lists.proofs.Ranges.{joined_bound}
use Rattle.params.specs.Limits.{border, max_side, keypoint_words}
use Rattle.picture.specs.declared.Shape.{Shape}
use Rattle.detect_refine.specs.Settle.{refine_of}
use Rattle.detect_refine.specs.Place.{Searched, Placed}
use Rattle.detect_keypoint.specs.declared.Search.{Search}
use Rattle.detect_keypoint.specs.declared.RawKeypoint.{RawKeypoint}
use Rattle.detect_extrema.specs.Neighbours.{tied, candidate}
use Rattle.detect_extrema.specs.Scan.{cell_of, found, cells_of, row_of, words}
use Rattle.detect_extrema.proofs.Rows.{cells_bound}
use Rattle.detect_words.specs.declared.Form.{Form}
use Rattle.detect_words.specs.declared.Form.TheVariants.{CellWord, KeypointWords}
use Rattle.detect_words.specs.Leaves.{cell_word, cell_at, leaves}
use Rattle.detect_rows.specs.Forms.{run_leaves, row_leaves, rows_leave, again, all_again, Cells}
use Rattle.detect_words.proofs.Words.{words_append, words_none, Filled, filled_parts}
use Rattle.detect_words.proofs.Leaves.{leaves_none, few_one, cell_back}

-- the keypoints of the rows from lo to below hi
abbrev pub rows_of : List Float → Shape → Search → ℕ → ℕ → List RawKeypoint
rows_of d t s lo hi = joined lo hi (λ r. row_of tied d t s r)

module _ (d : List Float) (t : Shape) (s : Search) where
  -- a cell gives nothing, or the keypoint that it is refined to
  found_cases : (P : List RawKeypoint → Type 0) (r c : ℕ) → P [] → ((k : RawKeypoint) → refine_of d t s (cell_of s r c) ≡ Some k → P (k ∷ [])) → P (found tied d t s r c)
  unfolding found
  found_cases P r c z f = go (candidate tied s.threshold d t s.layer r c) (refine_of d t s (cell_of s r c)) refl
    where
      go : (b : Bool) (x : Option RawKeypoint) → refine_of d t s (cell_of s r c) ≡ x → P (cond b (option_to_list x) [])
      go true None e = z
      go true (Some k) e = f k e
      go false x e = z

  -- ---- a relation of what is left and of the keypoints that it is left of
  module _ (form : Form) (R : List ℕ → List RawKeypoint → Type 0) (start : R [] []) (on : (a a' : List ℕ) (b b' : List RawKeypoint) → R a b → R a' b' → R (a ++ a') (b ++ b')) where
    abbrev AtCell : ℕ → ℕ → Type 0
    AtCell r c = (k : RawKeypoint) → refine_of d t s (cell_of s r c) ≡ Some k → R (leaves form r c (k ∷ [])) (k ∷ [])

    pub both_run : (r lo hi : ℕ) → ((c : ℕ) → lo ≤ c → c < hi → AtCell r c) → R (run_leaves form d t s r lo hi) (cells_of tied d t s r lo hi)
    both_run r lo hi at =
        both_joined R start on lo hi _ _ (λ c a b. found_cases (λ ks. R (leaves form r c ks) ks) r c (rw (leaves_none form r c) start) (at c a b))

    pub both_rows : (lo hi : ℕ) → ((r c : ℕ) → lo ≤ r → r < hi → border ≤ c → c < t.width - border → AtCell r c) → R (rows_leave form d t s lo hi) (rows_of d t s lo hi)
    unfolding rows_leave row_leaves row_of
    both_rows lo hi at = both_joined R start on lo hi _ _ (λ r u b. both_run r border (t.width - border) (λ c l e. at r c u b l e))

  -- ---- how long it is
  pub cell_bound : (form : Form) (r c : ℕ) → length (leaves form r c (found tied d t s r c)) ≤ keypoint_words
  cell_bound form r c = found_cases (λ ks. length (leaves form r c ks) ≤ keypoint_words) r c (rw (leaves_none form r c) (omega arith)) (λ k _. few_one form r c k)

  run_few : (form : Form) (r lo hi : ℕ) → length (run_leaves form d t s r lo hi) ≤ keypoint_words * length (cells_of tied d t s r lo hi)
  run_few form r lo hi =
      both_run form (λ ws ks. length ws ≤ keypoint_words * length ks) (omega arith) (λ a a' b b' p q. rw (length-append, length-append) (omega arith)) r lo hi
      (λ c _ _ k _. few_one form r c k)

  pub run_bound : (form : Form) (r lo hi : ℕ) → length (run_leaves form d t s r lo hi) ≤ keypoint_words * (hi - lo)
  run_bound form r lo hi = omega (arith, run_few form r lo hi, cells_bound tied d t s r lo hi)

  pub run_quiet : (form : Form) (r lo hi : ℕ) → cells_of tied d t s r lo hi ≡ [] → run_leaves form d t s r lo hi ≡ []
  run_quiet form r lo hi e = empty (run_leaves form d t s r lo hi) (omega (arith, run_few form r lo hi, ap length e))
    where
      empty : (l : List ℕ) → length l ≡ 0 → l ≡ []
      empty [] e = refl
      empty (x ∷ l) e = absurd (omega arith)

  -- the cells of a run up to one, and from it on
  pub run_more : (old : List ℕ) (from : ℕ) (form : Form) (r lo mid hi : ℕ) (out out' : List ℕ) (n x : ℕ) → lo ≤ mid → mid ≤ hi → Filled old from (run_leaves form d t s r lo mid) out n
      → Filled out (from + n) (run_leaves form d t s r mid hi) out' x → Filled old from (run_leaves form d t s r lo hi) out' (n + x)
  run_more old from form r lo mid hi out out' n x a b p q = filled_parts old from lo mid (λ c. leaves form r c (found tied d t s r c)) out out' n x a p hi b q

  pub row_bound : (form : Form) (r : ℕ) → length (row_leaves form d t s r) ≤ keypoint_words * (t.width - border - border)
  unfolding row_leaves
  row_bound form r = run_bound form r border (t.width - border)

  -- few enough to number
  pub rows_few : (form : Form) (lo hi : ℕ) → hi ≤ max_side → t.width ≤ max_side → length (rows_leave form d t s lo hi) ≤ max_side * (keypoint_words * max_side)
  unfolding rows_leave
  rows_few form lo hi a b =
      le_trans (joined_bound (keypoint_words * (t.width - border - border)) lo hi (λ r. row_leaves form d t s r) (row_bound form))
      (mul-le-mul {n₁ = hi - lo} {m₁ = keypoint_words * (t.width - border - border)} {n₂ = max_side} {m₂ = keypoint_words * max_side} (omega arith) (omega arith))

  -- ---- the words that rows leave are those of their keypoints
  pub rows_left : (lo hi : ℕ) → rows_leave KeypointWords d t s lo hi ≡ words (rows_of d t s lo hi)
  rows_left lo hi =
      both_rows KeypointWords (λ ws ks. ws ≡ words ks) (sym words_none) (λ a a' b b' p q. rw (p, q) (sym (words_append b b'))) lo hi (λ r c _ _ _ _ k _. refl)

  -- ---- the cells that they leave are as many as their keypoints, and give their words again
  pub rows_count : (lo hi : ℕ) → length (rows_leave CellWord d t s lo hi) ≡ length (rows_of d t s lo hi)
  rows_count lo hi =
      both_rows CellWord (λ ws ks. length ws ≡ length ks) refl (λ a a' b b' p q. rw (length-append, length-append, p, q)) lo hi (λ r c _ _ _ _ k _. refl)

  pub again_none : all_again d t s [] ≡ []
  unfolding all_again
  again_none = refl

  again_one : (w : ℕ) → all_again d t s (w ∷ []) ≡ again d t s w
  unfolding all_again
  again_one w = append-nil (again d t s w)

  again_append : (a b : List ℕ) → all_again d t s (a ++ b) ≡ all_again d t s a ++ all_again d t s b
  unfolding all_again
  again_append [] b = refl
  again_append (w ∷ a) b = rw (again_append a b, append_assoc)

  pub again_more : (ws : List ℕ) (i : ℕ) → i < length ws → all_again d t s (take (i + 1) ws) ≡ all_again d t s (take i ws) ++ again d t s (get_or ws i 0)
  again_more ws i l = rw (add-one, take-suc ws i 0 l, again_append, again_one)

  pub again_bound : (w : ℕ) → length (again d t s w) ≤ keypoint_words
  unfolding words
  again_bound w = go (refine_of d t s (cell_at s w))
    where
      go : (x : Option RawKeypoint) → length (words (option_to_list x)) ≤ keypoint_words
      go None = omega arith
      go (Some k) = omega arith

  module _ (len : ℕ) (q : Searched len t s) where
    pub rows_again : (lo hi : ℕ) → all_again d t s (rows_leave CellWord d t s lo hi) ≡ words (rows_of d t s lo hi)
    rows_again lo hi =
        both_rows CellWord (λ ws ks. all_again d t s ws ≡ words ks) (again_none ∙ sym words_none) (λ a a' b b' p q. rw (again_append, p, q) (sym (words_append b b'))) lo hi
        (λ r c _ _ _ l k e. again_one (cell_word r c) ∙ rw (cell_back s r c (omega (arith, q.wide)), e))

    -- those of rows that are at least the border from the edges
    module _ (lo hi : ℕ) (above : border ≤ lo) (below : hi ≤ t.height - border) where
      rows_cells : Each (λ w. Placed t s.settings.layers (cell_at s w)) (rows_leave CellWord d t s lo hi)
      rows_cells =
          both_rows CellWord (λ ws _. Each (λ w. Placed t s.settings.layers (cell_at s w)) ws) none (λ a a' b b' p q. each_append p q) lo hi
          (λ r c u b l e k _. each_one (rw (cell_back s r c (omega (arith, q.wide))) (record { first = q.first; last = q.last; top = omega arith; bottom = omega arith; start = l; end = e })))

      pub held_cells : Cells t s (rows_leave CellWord d t s lo hi)
      held_cells i l = each_at rows_cells 0 i l
