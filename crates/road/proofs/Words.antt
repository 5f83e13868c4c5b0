-- What goes from one entry to the next in words reads back as what the first one gave. Assumes nothing.
use Prim.Native.Nat.{ℕ, zero, suc, ◌*◌, ◌<◌}
use native.Mathlib.Nat.{not-suc-le-zero, le_of_suc-le-suc}
use mathlib.Core.Path.{◌≡◌, refl, sym, ap, ◌∙◌, subst}
use mathlib.Core.List.{List, [], ◌∷◌}
use lib.Dec.{T}
use lib.ListN.{length, get_or, take, drop}
use lib.Ieee.{Float, nan, binary32, fits}
use Rattle.params.specs.Limits.{keypoint_words}
use Rattle.params.specs.declared.Settings.{Settings}
use Rattle.detect_keypoint.specs.declared.RawKeypoint.{RawKeypoint}
use Rattle.detect_extrema.specs.Scan as Raw
use Rattle.detect.proofs.Rules.{detect_rule}
use Rattle.orient_words.specs.Oriented as Oriented
use Rattle.orient_words.specs.declared.OrientedKeypoint.{OrientedKeypoint}
use Rattle.orient.specs.Rules.{Passed}
use Rattle.orient.proofs.Rules.{orient_rule}
use Rattle.orient_laws.specs.Rules.{Turn}
use Rattle.orient_laws.proofs.Rules.{angles_rule}
use Rattle.words.specs.Keypoint.{keypoint_in}
use Rattle.words.specs.Oriented.{oriented_in}
use Rattle.words.specs.Rules.{OrientedHeld}
use Rattle.words.proofs.Rules.{words_rule}
use Rattle.road.specs.Road.{Among, Octave, size_in, search_fault, found_in, turn_fault, directions_of}
use Rattle.road.proofs.Stages.{sound}

-- what stands past the end does not matter before it
same_past : {A : Type 0} (xs : List A) (i : ℕ) (a b : A) → i < length xs → get_or xs i a ≡ get_or xs i b
same_past [] i a b l = absurd (not-suc-le-zero l)
same_past (x ∷ xs) zero a b l = refl
same_past (x ∷ xs) (suc i) a b l = same_past xs i a b (le_of_suc-le-suc l)

module _ (s : Settings) (q : Octave) (layer : ℕ) (z : search_fault s q layer ≡ 0) where
  pub keypoint_words_lem : (past : RawKeypoint) (i : ℕ) → i < length (found_in s q layer)
      → keypoint_in (take keypoint_words (drop (keypoint_words * i) (Raw.words (found_in s q layer)))) ≡ get_or (found_in s q layer) i past
  keypoint_words_lem past i l =
      let good = detect_rule.sound q.stack q.shape layer q.number s z past i l in
      ap keypoint_in (words_rule.keypoint_at (found_in s q layer) i past l)
      ∙ words_rule.keypoint (get_or (found_in s q layer) i past) (words_rule.found q.shape.width q.shape.height q.number s (get_or (found_in s q layer) i past) good)

  module _ (k : RawKeypoint) (m : Among k (found_in s q layer)) (img : List Float) (t : turn_fault img q k ≡ 0) (past : OrientedKeypoint) (i : ℕ) (l : i < length (directions_of img q k)) where
    abbrev given : OrientedKeypoint
    given = get_or (directions_of img q k) i (Oriented.oriented_of k nan)

    passed : Passed k given
    passed = orient_rule.passed img (size_in q) k i l

    turn : Turn given.angle
    turn = angles_rule.angle img (size_in q) k i t l

    held : OrientedHeld given
    held =
        let of = words_rule.found q.shape.width q.shape.height q.number s k (sound s q layer z k m) in
        record {
          x = subst (λ (v : Float). T (fits binary32 v)) (sym passed.x) of.x;
          y = subst (λ (v : Float). T (fits binary32 v)) (sym passed.y) of.y;
          size = subst (λ (v : Float). T (fits binary32 v)) (sym passed.size) of.size;
          response = subst (λ (v : Float). T (fits binary32 v)) (sym passed.response) of.response;
          angle = turn.held;
        }

    pub direction_words : oriented_in (take Oriented.oriented_words (drop (Oriented.oriented_words * i) (Oriented.words (directions_of img q k)))) ≡ get_or (directions_of img q k) i past
    direction_words =
        ap oriented_in (words_rule.oriented_at (directions_of img q k) i (Oriented.oriented_of k nan) l)
        ∙ words_rule.oriented given held
        ∙ same_past (directions_of img q k) i (Oriented.oriented_of k nan) past l
