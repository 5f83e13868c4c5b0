-- Which answer holds, by the first check that fails. Assumes nothing.
use Prim.Native.Nat.{ℕ, suc}
use mathlib.Core.Path.{◌≡◌, refl, ◌∙◌}
use mathlib.Core.List.{List}
use native.Mathlib.Omega.{arith}
use lib.ListN.{length}
use lib.Ieee.{Float}
use Rattle.params.specs.Answers.{Answer, Refused, answer_of, refusal_number, refused}
use Rattle.params.specs.declared.Refusal.{Refusal}
use Rattle.params.specs.declared.Refusal.TheVariants.{Shape, Layers, Length, Settings, Fields, Samples, Room, Sheet}
use Rattle.params.specs.declared.Settings as settings
use Rattle.picture.specs.declared.Shape as shape
use Rattle.detect_room.specs.Room.{sample_fault}
use Rattle.detect_room.proofs.Room.{Tested}
use Rattle.detect.specs.Entry.{fault_of, list_of, extrema_answer, extrema_out}
use Rattle.detect.specs.Form.{form_fault}
use Rattle.detect.proofs.Faults.{fault_in_turn, form_low}

module _ (d : List Float) (t : shape.Shape) (layer octave : ℕ) (s : settings.Settings) (out : List ℕ) where
  abbrev answer : Answer
  answer = extrema_answer d t layer octave s (length out)

  abbrev after : List ℕ
  after = extrema_out d t layer octave s out

  -- refused by its form
  at_fault : (n : ℕ) → suc n ≡ form_fault (length d) t layer octave s → (Refused (suc n) ≡ answer) × (out ≡ after)
  unfolding extrema_answer extrema_out answer_of
  at_fault n e = rw (fault_in_turn d t layer octave s, ← e) (refl, refl)

  pub ill_formed : (r : Refusal) → refusal_number r ≡ form_fault (length d) t layer octave s → (refused r ≡ answer) × (out ≡ after)
  ill_formed Shape e = at_fault 0 e
  ill_formed Layers e = at_fault 1 e
  ill_formed Length e = at_fault 2 e
  ill_formed Settings e = at_fault 3 e
  ill_formed Fields e = at_fault 4 e
  ill_formed Samples e = at_fault 5 e
  ill_formed (Room n) e = absurd (omega (arith, form_low (length d) t layer octave s))
  ill_formed Sheet e = at_fault 7 e

  -- well formed: by the samples and the room
  pub well_formed : 0 ≡ form_fault (length d) t layer octave s → (a : Answer) (l : List ℕ) → Tested d (list_of d t layer octave s) out a l → (a ≡ answer) × (l ≡ after)
  unfolding extrema_answer extrema_out
  well_formed ok a l g =
      let e : fault_of d t layer octave s ≡ sample_fault d = fault_in_turn d t layer octave s ∙ rw (← ok) in
      rw e (g.answer, g.left)
