-- The words that the search of a block leaves: how many keypoints they are, and that they are the block's. Assumes nothing.
use Prim.Native.Nat.{ℕ, ◌-◌, ◌*◌, ◌≤◌}
use mathlib.Core.Path.{◌≡◌, refl, sym, ap, ◌∙◌}
use mathlib.Core.List.{List, [], ◌∷◌, ◌++◌, foldl, map}
use native.Mathlib.Omega.{arith}
use lib.ListN.{length}
use lib.Seq.{sets}
use lib.Ieee.{Float}
use Rattle.lists.proofs.Ranges.{sets_front}
use Rattle.params.specs.Limits.{keypoint_words}
use Rattle.picture.specs.declared.Shape.{Shape}
use Rattle.sheet.specs.Sheet.{parts}
use Rattle.detect_keypoint.specs.declared.Search.{Search}
use Rattle.detect_keypoint.specs.declared.RawKeypoint.{RawKeypoint}
use Rattle.detect_extrema.specs.Neighbours.{tied}
use Rattle.detect_extrema.specs.Scan.{cells_of, words, words_of}
use Rattle.detect_extrema.proofs.Rows.{cells_bound}
use Rattle.detect_words.proofs.Words.{length_words, words_append, words_none}
use Rattle.detect_words.specs.declared.Form.TheVariants.{KeypointWords}
use Rattle.detect_rows.specs.Forms.{run_leaves}
use Rattle.detect_rows.proofs.Forms.{both_run}
use Rattle.audit_compare.specs.Standing.{Standing}
use Rattle.audit_keypoint.specs.Steps.{Given, keypoint_step}
use Rattle.audit_walk.specs.Walk.{passed}

-- the parts of keypoints' words, with anything behind them
parts_words : (ks : List RawKeypoint) (end : List ℕ) → parts keypoint_words (length ks) (words ks ++ end) ≡ map words_of ks
unfolding parts words
parts_words [] end = refl
parts_words (k ∷ ks) end = rw (parts_words ks end)

module _ (d : List Float) (t : Shape) (s : Search) (r lo hi : ℕ) where
  run_left : run_leaves KeypointWords d t s r lo hi ≡ words (cells_of tied d t s r lo hi)
  run_left =
      both_run d t s KeypointWords (λ ws ks. ws ≡ words ks) (sym words_none) (λ a a' b b' p q. rw (p, q) (sym (words_append b b'))) r lo hi (λ c _ _ k _. refl)

  abbrev ks : List RawKeypoint
  ks = cells_of tied d t s r lo hi

  -- ten words are left of each, and no cell gives more than one
  pub block_count : (n : ℕ) → n ≡ length (run_leaves KeypointWords d t s r lo hi) → (n ≡ keypoint_words * length ks) × (length ks ≤ hi - lo)
  block_count n c = (c ∙ ap length run_left ∙ length_words ks, cells_bound tied d t s r lo hi)

  -- so where there is room their words stand in front, and each ten are a keypoint
  module _ (old new : List ℕ) (room : keypoint_words * (hi - lo) ≤ length old) (e : new ≡ sets old 0 (run_leaves KeypointWords d t s r lo hi)) where
    block_parts : parts keypoint_words (length ks) new ≡ map words_of ks
    block_parts =
        let q = sets_front old (words ks) (omega (arith, length_words ks, cells_bound tied d t s r lo hi)) in
        rw (e, run_left, q) (parts_words ks _)

    pub block_passed : (gauss : List Float) (g : Given) (st x : Standing) (m : ℕ) → m ≡ length ks → x ≡ foldl (keypoint_step gauss g) st (parts keypoint_words m new) → x ≡ passed gauss g st ks
    unfolding passed
    block_passed gauss g st x m z p = p ∙ rw (z, block_parts)
