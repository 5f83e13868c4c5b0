-- The answer and the lent words, by cases: a fault or none. Assumes nothing.
use Rattle.std.proofs.Common.{ℕ, ◌<◌, ◌≤◌, ◌≡◌, Bool, true, false, List, [], ◌∷◌, length, refl, sym, ap, ◌∙◌, subst, arith}
use Rattle.std.proofs.lemmas.List.{length-map}
use mathlib.Core.Bool.{◌&&◌}
use borrow.Author.Tests.{ltb-true}
use lib.Dec.{ltb}
use lib.Ieee.{Float}
use Rattle.lists.proofs.Bools.{and_both}
use Rattle.params.specs.Table.{Line, line, first_fault}
use Rattle.params.specs.Answers.{answer_of, landed, refusal_number, refused}
use Rattle.params.specs.declared.Refusal.{Refusal}
use Rattle.params.specs.declared.Refusal.TheVariants.{Shape, Layers, Length, Settings, Fields, Samples, Room, Sheet}
use Rattle.picture.specs.declared.Size.{Size}
use Rattle.detect_keypoint.specs.declared.RawKeypoint.{RawKeypoint}
use Rattle.orient_window.specs.Window.{cells_read}
use Rattle.orient_tally.specs.Sample.{bins}
use Rattle.orient_peaks.specs.Found.{Holds}
use Rattle.orient_words.specs.Given.{room_for, given_with, left_with}
use Rattle.orient_words.specs.declared.Directions.{Directions}
use Rattle.orient_words.specs.Oriented.{oriented_of, OrientAnswer, samples_with, words}
use Rattle.orient.specs.Entry.{window_at, angles_at, orient_fault, oriented_list, given_back, orient_answer, orient_out}
use Rattle.orient.specs.Given.{directions_of}
use Rattle.orient.proofs.Checks.{about_holds, about_read}

-- whether each line has a number below 7
abbrev low : List Line → Bool
low [] = true
low (line n b ∷ ls) = ltb n 7 && low ls

first_small : (ls : List Line) → low ls ≡ true → first_fault ls < 7
unfolding first_fault
first_small [] h = omega arith
first_small (line n true ∷ ls) h = ltb-true n 7 (and_both (ltb n 7) (low ls) h).0
first_small (line n false ∷ ls) h = first_small ls (and_both (ltb n 7) (low ls) h).1

-- a refusal has no samples, and leaves the lent words as they were
nothing : (r : Refusal) (read : ℕ) (new old : List ℕ) → (samples_with (refused r) read ≡ 0) × (landed (refused r) new old ≡ old)
nothing Shape read new old = (refl, refl)
nothing Layers read new old = (refl, refl)
nothing Length read new old = (refl, refl)
nothing Settings read new old = (refl, refl)
nothing Fields read new old = (refl, refl)
nothing Samples read new old = (refl, refl)
nothing (Room n) read new old = (refl, refl)
nothing Sheet read new old = (refl, refl)

module _ (img : List Float) (s : Size) (k : RawKeypoint) where
  -- room is no fault of the checks
  fault_small : orient_fault img s k < 7
  unfolding orient_fault
  fault_small = first_small _ refl

  refused_is : (r : Refusal) (room : ℕ) → refusal_number r ≡ orient_fault img s k → given_back img s k room ≡ refused r
  unfolding given_back answer_of
  refused_is Shape room e = rw (← e)
  refused_is Layers room e = rw (← e)
  refused_is Length room e = rw (← e)
  refused_is Settings room e = rw (← e)
  refused_is Fields room e = rw (← e)
  refused_is Samples room e = rw (← e)
  refused_is (Room n) room e = absurd (omega (arith, fault_small))
  refused_is Sheet room e = rw (← e)

  pub answer_refused : (r : Refusal) (room : ℕ) → refusal_number r ≡ orient_fault img s k → record { answer = refused r; samples = 0 } ≡ orient_answer img s k room
  unfolding orient_answer
  answer_refused r room e = rw (refused_is r room e, (nothing r (cells_read (window_at s k)) [] []).0)

  pub out_refused : (r : Refusal) (out : List ℕ) → refusal_number r ≡ orient_fault img s k → out ≡ orient_out img s k out
  unfolding orient_out
  out_refused r out e = rw (refused_is r (length out) e, (nothing r 0 (words (oriented_list img s k)) out).1)

  module _ (d : Directions) (found : d ≡ directions_of img s k) where
    held : Holds d.angles (angles_at img s k)
    held = subst (λ (x : Directions). Holds x.angles (angles_at img s k)) (sym found) (about_holds s k img)

    read : d.read ≡ cells_read (window_at s k)
    read = ap (λ (x : Directions). x.read) found ∙ about_read s k img

    pub few : d.angles.count ≤ bins
    few = omega (arith, held.count, held.few)

    module _ (fine : orient_fault img s k ≡ 0) where
      given_is : (room : ℕ) → given_back img s k room ≡ room_for d room
      unfolding given_back room_for oriented_list
      given_is room = rw (fine, length-map (angles_at img s k) (oriented_of k), held.count)

      pub answer_given : (room : ℕ) (a : OrientAnswer) → a ≡ given_with d room → a ≡ orient_answer img s k room
      unfolding orient_answer given_with
      answer_given room a e = e ∙ rw (given_is room, read)

      pub out_given : (out new : List ℕ) → new ≡ left_with k d out → new ≡ orient_out img s k out
      unfolding orient_out left_with oriented_list
      out_given out new e = e ∙ rw (given_is (length out), held.count, held.first)
