-- The laws of the checker that specs/Rules.antt states. Assumes nothing.
use Prim.Native.Nat.{ℕ, ◌+◌}
use native.Mathlib.Omega.{arith}
use mathlib.Core.Path.{◌≡◌, ap, ◌∙◌}
use mathlib.Core.Bool.{Bool, true, and-eq-true_iff}
use mathlib.Core.List.Memᴰ
use mathlib.Core.List.{List, [], ◌∷◌}
use lib.Ieee.{Float}
use Rattle.params.specs.Table.{all_good}
use Rattle.params.specs.declared.Settings.{Settings}
use Rattle.picture.specs.declared.Shape.{Shape}
use Rattle.picture.specs.declared.Size.{Size}
use Rattle.detect_keypoint.specs.declared.RawKeypoint.{RawKeypoint}
use Rattle.orient_window.specs.Good.{window_good}
use Rattle.orient_words.specs.declared.OrientedKeypoint.{OrientedKeypoint}
use Rattle.orient.specs.Entry.{window_at}
use Rattle.road.specs.Road.{Among, Octave, size_in, found_in, directions_of, picture_for, patch_reads, record_for, turn_fault, patch_fault}
use Rattle.road.specs.Rules.{six_unless, Through, Making}
use Rattle.road.proofs.Members.{Step, from_joined}
use Rattle.audit_rule.specs.Entry.{octave_of, keypoints_in, all_of, read_good}
use Rattle.audit_rule.specs.Rules.{Sound, AuditRule}
use Rattle.audit_rule.proofs.Walked.{turned, taken, makes}
use Rattle.audit_rule.proofs.First.{first_header, first_record, first_missing, first_left}
use Rattle.audit_rule.proofs.Ours.{formed, stack_good, cells_good, accepted_ours, ours_accepted}

-- what all pass, each passes
each_of : {A : Type 0} (test : A → Bool) (xs : List A) → all_of test xs ≡ true → (x : A) → Among x xs → test x ≡ true
unfolding all_of
each_of test [] e x m = elim m [ ]
each_of test (y ∷ ys) e x (Memᴰ.head is) = ap test is ∙ ((and-eq-true_iff (test y) (all_of test ys)).0 e).0
each_of test (y ∷ ys) e x (Memᴰ.tail m) = each_of test ys ((and-eq-true_iff (test y) (all_of test ys)).0 e).1 x m

-- ---- no stage refuses inside

module _ (dog gauss : List Float) (t : Shape) (octave : ℕ) (s : Settings) (base : Size) (fine : Sound dog gauss t octave s base) (k : RawKeypoint) where
  abbrev q : Octave
  q = octave_of dog gauss t octave

  abbrev img : List Float
  img = picture_for q k

  module _ (m : Among k (keypoints_in s q)) where
    at : Step 1 (s.layers + 1) (found_in s q) k
    unfolding keypoints_in
    at = from_joined 1 (s.layers + 1) (found_in s q) k m

    cells : (window_good img (window_at (size_in q) k) ≡ true) × (all_of (λ o. all_good (patch_reads img q o)) (directions_of img q k) ≡ true)
    unfolding read_good
    cells = (and-eq-true_iff _ _).0 (each_of (read_good q) (keypoints_in s q) (cells_good dog gauss t octave s base fine) k m)

    oriented : turn_fault img q k ≡ 0
    oriented =
        turned dog gauss t octave s base (formed dog gauss t octave s base fine) (stack_good dog gauss t octave s base fine) at.step at.from (omega (arith, at.below)) k at.inside
        ∙ ap six_unless cells.0

    described : (o : OrientedKeypoint) → Among o (directions_of img q k) → patch_fault img q o ≡ 0
    described o n =
        taken dog gauss t octave s base (formed dog gauss t octave s base fine) (stack_good dog gauss t octave s base fine) at.step at.from (omega (arith, at.below)) k at.inside oriented o n
        ∙ ap six_unless (each_of (λ o. all_good (patch_reads img q o)) (directions_of img q k) cells.1 o n)

    stages : Through img q k
    stages = record { oriented = oriented; described = described }

    made : (o : OrientedKeypoint) → Among o (directions_of img q k) → Making q k o (record_for q k o)
    made o n =
        makes dog gauss t octave s base (formed dog gauss t octave s base fine) (stack_good dog gauss t octave s base fine) at.step at.from (omega (arith, at.below)) k at.inside oriented o n
        (described o n)

pub audit_rule : AuditRule
audit_rule =
    record {
      call = λ dog gauss t octave s base.
          record {
            accepted_ours = accepted_ours dog gauss t octave s base;
            ours_accepted = ours_accepted dog gauss t octave s base;
            first_header = first_header dog gauss t octave s base;
            first_record = first_record dog gauss t octave s base;
            first_missing = first_missing dog gauss t octave s base;
            first_left = first_left dog gauss t octave s base;
            stages = stages dog gauss t octave s base;
            makes = made dog gauss t octave s base;
          };
    }
