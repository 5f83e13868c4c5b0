-- The laws of detection's list that specs/Rules.antt states. Assumes nothing.
use Prim.Native.Nat.{ℕ, ◌-◌, ◌<◌, ◌≤◌}
use mathlib.Core.Path.{◌≡◌, refl}
use mathlib.Core.List.{List}
use lib.ListN.{length, get_or}
use lib.Ieee.{Float}
use Rattle.std.specs.Prelude.{Option, Some, None, option_to_list}
use Rattle.lists.specs.Each.{Each, none, more}
use Rattle.lists.proofs.Each.{each_when, each_joined}
use Rattle.params.specs.Limits.{border, max_moves}
use Rattle.params.specs.declared.Settings.{Settings}
use Rattle.picture.specs.declared.Shape.{Shape}
use Rattle.detect_keypoint.specs.Search.{search_of}
use Rattle.detect_refine.specs.Settle.{refine_of}
use Rattle.detect_refine.specs.Place.{Placed}
use Rattle.detect_keypoint.specs.Sound.{Sound}
use Rattle.detect_keypoint.specs.declared.Search.{Search}
use Rattle.detect_keypoint.specs.declared.RawKeypoint.{RawKeypoint}
use Rattle.detect_refine.proofs.Settled.{few_moves}
use Rattle.detect_refine.proofs.Sounds.{refine_sound}
use Rattle.detect_extrema.specs.Neighbours.{tied, candidate}
use Rattle.detect_extrema.specs.Scan.{cell_of, found, row_of, keypoints}
use Rattle.lists.proofs.Each.{each_at}
use Rattle.detect.specs.Rules.{DetectRule}
use Rattle.detect.proofs.Faults.{Right, right}
use Rattle.detect_hold.proofs.Few.{few_cells}

-- ---- what holds of each keypoint that a cell of the border's inside is refined to holds of every one of the list
abbrev Held : (RawKeypoint → Type 0) → List Float → Shape → Search → Type 0
Held P d t s =
    (r c : ℕ) → border ≤ r → r < t.height - border → border ≤ c → c < t.width - border → (k : RawKeypoint) → refine_of d t s (cell_of s r c) ≡ Some k → P k

module _ (P : RawKeypoint → Type 0) (d : List Float) (t : Shape) (s : Search) (at : Held P d t s) where
  of_kept : (r c : ℕ) → border ≤ r → r < t.height - border → border ≤ c → c < t.width - border → (x : Option RawKeypoint) → refine_of d t s (cell_of s r c) ≡ x → Each P (option_to_list x)
  of_kept r c u b l e None q = none
  of_kept r c u b l e (Some k) q = more (at r c u b l e k q) none

  of_list : Each P (keypoints tied d t s)
  unfolding keypoints row_of found
  of_list =
      each_joined border (t.height - border) _ (λ r u b.
      each_joined border (t.width - border) _ (λ c l e.
      each_when (candidate tied s.threshold d t s.layer r c) _ (λ _. of_kept r c u b l e _ refl)))

  of_each : (past : RawKeypoint) (i : ℕ) → i < length (keypoints tied d t s) → P (get_or (keypoints tied d t s) i past)
  of_each past i l = each_at of_list past i l

-- ---- every keypoint is sound
sound_at : (d : List Float) (t : Shape) (layer octave : ℕ) (s : Settings) → Right d t layer octave s → Held (Sound t.width t.height s octave) d t (search_of layer octave s)
sound_at d t layer octave s a r c u b l e k q =
    let z = a.searched in
    let f = search_of layer octave s in
    let p : Placed t s.layers (cell_of f r c) = record { first = z.first; last = z.last; top = u; bottom = b; start = l; end = e } in
    refine_sound d t f (cell_of f r c) k z p a.settings a.good q

pub detect_rule : DetectRule
detect_rule =
    record {
      few = λ d t layer octave s. few_cells d t (search_of layer octave s);
      moves = λ d t layer octave s. let f = search_of layer octave s in of_each (λ k. k.moves < max_moves) d t f (λ r c u b l e k q. few_moves d t f (cell_of f r c) k q);
      sound = λ d t layer octave s z. of_each (Sound t.width t.height s octave) d t (search_of layer octave s) (sound_at d t layer octave s (right d t layer octave s z));
    }
