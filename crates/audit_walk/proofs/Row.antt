-- A row's keypoints block by block: after a block more, and when a stage has refused. Assumes nothing.
use Prim.Native.Nat.{ℕ, ◌+◌, ◌-◌, ◌≤◌, ◌<◌}
use Rattle.std.proofs.Common.{◌/◌}
use mathlib.Core.Path.{◌≡◌}
use mathlib.Core.Bool.{true, not}
use mathlib.Core.List.{List, foldl}
use native.Mathlib.Omega.{arith}
use lib.ListN.{length}
use lib.Seq.{sets}
use lib.Ieee.{Float}
use Rattle.std.specs.Prelude.{min}
use Rattle.params.specs.Limits.{border, keypoint_words}
use Rattle.picture.specs.declared.Shape.{Shape}
use Rattle.sheet.specs.Sheet.{parts}
use Rattle.detect_keypoint.specs.declared.Search.{Search}
use Rattle.detect_extrema.specs.Neighbours.{tied}
use Rattle.detect_extrema.specs.Scan.{found, cells_of, row_of}
use Rattle.detect_words.specs.declared.Form.TheVariants.{KeypointWords}
use Rattle.detect_rows.specs.Forms.{run_leaves}
use Rattle.audit_compare.specs.Standing.{Standing}
use Rattle.audit_keypoint.specs.Steps.{Given, keypoint_step}
use Rattle.audit_walk.specs.Walk.{passed}
use Rattle.audit_walk.proofs.Blocks.{block_count, block_passed}
use Rattle.audit_walk.proofs.Passed.{passed_parts, passed_refused}

-- the words of 64 keypoints
abbrev pub room_lent : ℕ
room_lent = 640

module _ (d : List Float) (t : Shape) (s : Search) (r : ℕ) (gauss : List Float) (g : Given) (st : Standing) where
  abbrev pub UpTo : ℕ → Standing → Type 0
  UpTo c x = x ≡ passed gauss g st (cells_of tied d t s r border c)

  module _ (lo end hi : ℕ) (above : border ≤ lo) (before : lo < end) (ends : hi ≡ min (lo + 64) end) (now y : Standing) (up : UpTo (min lo end) now) (old new : List ℕ) (n : ℕ)
      (room : length old ≡ room_lent) (many : n ≡ length (run_leaves KeypointWords d t s r lo hi)) (left : new ≡ sets old 0 (run_leaves KeypointWords d t s r lo hi))
      (made : y ≡ foldl (keypoint_step gauss g) now (parts keypoint_words (n / 10) new)) where
    pub block_on : UpTo hi y
    block_on =
        let e : min lo end ≡ lo = omega arith in
        let m = block_count d t s r lo hi n many in
        let p = block_passed d t s r lo hi old new (omega (arith, room, ends)) left gauss g now y (n / 10) (omega (arith, m)) made in
        passed_parts gauss g st border (λ i. found tied d t s r i) lo now y above (rw e at up) hi (omega (arith, ends)) p

  pub row_refused : (x : Standing) → not x.good ≡ true → (hi : ℕ) → border ≤ hi → hi ≤ t.width - border → UpTo hi x → x ≡ passed gauss g st (row_of tied d t s r)
  unfolding row_of
  row_refused x bad hi a b u = passed_refused gauss g st border (λ i. found tied d t s r i) x bad hi (t.width - border) a b u

  pub row_whole : (c : ℕ) (x : Standing) → c ≡ t.width - border → UpTo c x → x ≡ passed gauss g st (row_of tied d t s r)
  unfolding row_of
  row_whole c x e u = rw e at u
