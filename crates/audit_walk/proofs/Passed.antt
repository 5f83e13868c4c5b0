-- Keypoints after one another: those of a list joined of two, of one part more of a range, and of a range up to a number and from it on. Assumes nothing.
use Prim.Native.Nat.{ℕ, ◌+◌, ◌≤◌}
use mathlib.Core.Path.{◌≡◌, refl, sym, ap, ◌∙◌}
use mathlib.Core.Bool.{true, not}
use mathlib.Core.List.{List, [], ◌∷◌, ◌++◌, map}
use lib.Ieee.{Float}
use Rattle.lists.specs.Ranges.{joined}
use Rattle.lists.proofs.Ranges.{joined_none, joined_more, joined_split}
use Rattle.detect_keypoint.specs.declared.RawKeypoint.{RawKeypoint}
use Rattle.detect_extrema.specs.Scan.{words_of}
use Rattle.audit_compare.specs.Standing.{Standing}
use Rattle.audit_compare.proofs.Bare.{Bare}
use Rattle.audit_keypoint.specs.Steps.{Given, keypoint_step}
use Rattle.audit_keypoint.proofs.Keypoint.{keypoint_over}
use Rattle.audit_keypoint.proofs.Cut.{fold_keeps}
use Rattle.audit_keypoint.proofs.Bare.{keypoint_bare}
use Rattle.audit_walk.specs.Walk.{passed}

module _ (gauss : List Float) (g : Given) where
  passed_append : (st : Standing) (a b : List RawKeypoint) → passed gauss g (passed gauss g st a) b ≡ passed gauss g st (a ++ b)
  unfolding passed
  passed_append st [] b = refl
  passed_append st (k ∷ a) b = passed_append (keypoint_step gauss g st (words_of k)) a b

  -- once a stage has refused, nothing more is made
  passed_still : (r : Standing) → not r.good ≡ true → (ks : List RawKeypoint) → passed gauss g r ks ≡ r
  unfolding passed
  passed_still r bad [] = refl
  passed_still r bad (k ∷ ks) = ap (λ (x : Standing). passed gauss g x ks) (sym (keypoint_over gauss g r (words_of k) bad)) ∙ passed_still r bad ks

  -- and nothing is kept of what agreed until then
  pub passed_bare : (st : Standing) (ks : List RawKeypoint) → Bare st → Bare (passed gauss g st ks)
  unfolding passed
  passed_bare st ks b = fold_keeps Bare (keypoint_step gauss g) (keypoint_bare g gauss) st (map words_of ks) b

  module _ (st : Standing) (lo : ℕ) (f : ℕ → List RawKeypoint) where
    pub passed_none : (hi : ℕ) → hi ≤ lo → st ≡ passed gauss g st (joined lo hi f)
    unfolding passed
    passed_none hi h = rw (joined_none lo hi f h)

    module _ (mid : ℕ) (x y : Standing) (h : lo ≤ mid) (e : x ≡ passed gauss g st (joined lo mid f)) where
      pub passed_more : y ≡ passed gauss g x (f mid) → y ≡ passed gauss g st (joined lo (mid + 1) f)
      passed_more q = q ∙ rw (e, joined_more lo mid f h) (passed_append st (joined lo mid f) (f mid))

      pub passed_parts : (hi : ℕ) → mid ≤ hi → y ≡ passed gauss g x (joined mid hi f) → y ≡ passed gauss g st (joined lo hi f)
      passed_parts hi l q = q ∙ rw (e, ← joined_split lo mid hi f h l) (passed_append st (joined lo mid f) (joined mid hi f))

    pub passed_refused : (r : Standing) → not r.good ≡ true → (mid hi : ℕ) → lo ≤ mid → mid ≤ hi → r ≡ passed gauss g st (joined lo mid f) → r ≡ passed gauss g st (joined lo hi f)
    passed_refused r bad mid hi a b e = passed_parts mid r r a e hi b (sym (passed_still r bad (joined mid hi f)))
