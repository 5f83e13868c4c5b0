-- A keypoint that was found, on a picture of its octave's size: what orientation answers, and the descriptor to each direction. Assumes nothing.
use Prim.Native.Nat.{ℕ, ◌*◌}
use mathlib.Core.Path.{◌≡◌, ap, ◌∙◌, subst}
use mathlib.Core.Bool.{true, false}
use mathlib.Core.List.{List}
use lib.ListN.{length}
use lib.Ieee.{Float, nan}
use Rattle.params.specs.Table.{shape_wrong, all_good}
use Rattle.params.specs.declared.Settings.{Settings}
use Rattle.detect_keypoint.specs.Sound.{Sound}
use Rattle.detect_keypoint.specs.declared.RawKeypoint.{RawKeypoint}
use Rattle.detect_keypoint.specs.Search.{search_of}
use Rattle.detect_refine.specs.Place.{Searched}
use Rattle.detect.proofs.Faults as DetectFaults
use Rattle.detect.proofs.Rules.{detect_rule}
use Rattle.orient_window.specs.Good.{window_good}
use Rattle.orient_words.specs.Oriented.{oriented_of}
use Rattle.orient_words.specs.declared.OrientedKeypoint.{OrientedKeypoint}
use Rattle.orient.specs.Keypoint.{keypoint_wrong}
use Rattle.orient.specs.Entry.{window_at}
use Rattle.orient.specs.Rules.{Passed}
use Rattle.orient.proofs.Rules.{orient_rule}
use Rattle.orient_laws.specs.Rules.{Turn}
use Rattle.orient_laws.proofs.Rules.{angles_rule}
use Rattle.descriptor_patch.specs.Patch.{patch_of}
use Rattle.descriptor_words.specs.Words.{turn_at}
use Rattle.road.specs.Road.{Among, Octave, size_in, search_fault, found_in, turn_fault, directions_of, spot_for}
use Rattle.road.specs.Rules.{six_unless, Served, Through}
use Rattle.road.proofs.Members.{place}
use Rattle.road.proofs.Oriented.{sides_right, orient_answers, window_good_lem}
use Rattle.road.proofs.Described.{number_given, describe_answers, reads_good}

-- what stands past a list's end is never read
past : RawKeypoint
past = record { x = nan; y = nan; size = nan; response = nan; octave = 0; layer = 0; xi = nan; cc = 0; rr = 0; moves = 0 }

module _ (s : Settings) (q : Octave) (layer : ℕ) (z : search_fault s q layer ≡ 0) (k : RawKeypoint) (m : Among k (found_in s q layer)) where
  pub stack : Searched (length q.stack) q.shape (search_of layer q.number s)
  stack = (DetectFaults.right q.stack q.shape layer q.number s z).searched

  pub sound : Sound q.shape.width q.shape.height s q.number k
  sound =
      let p = place m in
      subst (λ (x : RawKeypoint). Sound q.shape.width q.shape.height s q.number x) (p.is past)
      (detect_rule.sound q.stack q.shape layer q.number s z past p.at p.below)

  shape : shape_wrong q.shape.width q.shape.height ≡ false
  shape = sides_right q.shape.width q.shape.height q.number s k stack.wide stack.high sound

  right : keypoint_wrong (size_in q) k ≡ false
  right = orient_rule.accepted (size_in q) q.number s k stack.many stack.low sound

  -- what a direction has of the keypoint
  pub passed : (img : List Float) (o : OrientedKeypoint) → Among o (directions_of img q k) → Passed k o
  passed img o n = let p = place n in subst (Passed k) (p.is (oriented_of k nan)) (orient_rule.passed img (size_in q) k p.at p.below)

  module _ (img : List Float) (whole : length img ≡ q.shape.height * q.shape.width) where
    pub oriented : turn_fault img q k ≡ six_unless (window_good img (window_at (size_in q) k))
    oriented = orient_answers img (size_in q) whole k shape right

    module _ (t : turn_fault img q k ≡ 0) (o : OrientedKeypoint) (n : Among o (directions_of img q k)) where
      pub turn : Turn o.angle
      turn = let p = place n in subst (λ (x : OrientedKeypoint). Turn x.angle) (p.is (oriented_of k nan)) (angles_rule.angle img (size_in q) k p.at t p.below)

      pub described : Served img q o
      described =
          let p = place n in
          let a = angles_rule.angle img (size_in q) k p.at t p.below in
          subst (λ (x : OrientedKeypoint). Served img q x) (p.is (oriented_of k nan))
          (record {
            taken = describe_answers img (size_in q) q.number s k stack.wide stack.high stack.low sound p.at p.below a whole;
            given = number_given img (size_in q) q.number s k stack.wide stack.high stack.low sound p.at p.below a;
          })

    pub through : all_good img ≡ true → Through img q k
    unfolding turn_at patch_of
    through g =
        let t = oriented ∙ ap six_unless (window_good_lem img (size_in q) whole g k shape right) in
        record {
          oriented = t;
          described = λ o n. (described t o n).taken ∙ ap six_unless (reads_good img g (turn_at (size_in q) (spot_for q o)) whole);
        }
