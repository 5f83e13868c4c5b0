-- After the records of a keypoint on a picture, by what orientation answers: with room for 18 directions, which it never passes, it refuses or gives them all. Assumes nothing.
use Prim.Native.Nat.{ℕ, ◌*◌, ◌≤◌}
use mathlib.Core.Path.{◌≡◌, refl, sym, ap, ◌∙◌}
use mathlib.Core.Bool.{true, false}
use mathlib.Core.List.{List, [], ◌∷◌, map, flat_map}
use native.Mathlib.Omega.{arith}
use borrow.Author.Tests.{le-leb}
use lib.Dec.{eqb}
use lib.ListN.{length}
use lib.Ieee.{Float}
use Rattle.std.specs.Prelude.{Err}
use Rattle.lists.specs.Pasted.{pasted}
use Rattle.lists.proofs.Pasted.{length_pasted}
use Rattle.params.specs.Answers.{on_fault, answer_of, number_of, count_of, told, Done, Refused}
use Rattle.params.specs.declared.Refusal.{Refusal}
use Rattle.params.proofs.Told.{number_told}
use Rattle.picture.specs.declared.Size.{Size}
use Rattle.detect_keypoint.specs.declared.RawKeypoint.{RawKeypoint}
use Rattle.orient_words.specs.Oriented.{oriented_words, words_of, words, OrientAnswer}
use Rattle.orient_words.specs.declared.OrientedKeypoint.{OrientedKeypoint}
use Rattle.orient_words.proofs.Words.{length_words}
use Rattle.orient.specs.Entry.{orient_fault, oriented_list, given_back, orient_answer, orient_out}
use Rattle.orient.proofs.Rules.{orient_rule}
use Rattle.words.specs.Keypoint.{keypoint_in}
use Rattle.sheet.specs.Sheet.{parts}
use Rattle.audit_compare.specs.Standing.{refused, Standing}
use Rattle.audit_keypoint.specs.Steps.{Given, size_for, direction_steps, turn_step}
use Rattle.audit_keypoint.proofs.Cut.{parts_joined}
use Rattle.audit_keypoint.proofs.Fault.{number_some, fault_there, fault_none}

words_joined : (os : List OrientedKeypoint) → words os ≡ flat_map words_of os
unfolding words flat_map
words_joined [] = refl
words_joined (o ∷ os) = rw (words_joined os)

-- a refusal of orientation has a number
pub unturned : (r : Refusal) → number_of (told (Err r)) ≡ 0 → ⊥
unturned r z = number_some r (sym (number_told (Err r)) ∙ z)

-- 18 directions of six words
abbrev room_lent : ℕ
room_lent = 108

module _ (g : Given) (img : List Float) (kw : List ℕ) (k : RawKeypoint) (read : k ≡ keypoint_in kw) (out : List ℕ) (room : length out ≡ room_lent)
    (r : OrientAnswer) (z : Size) (sized : z ≡ size_for g.shape) (told : r ≡ orient_answer img z k (length out)) where
  fault : ℕ
  fault = orient_fault img (size_for g.shape) (keypoint_in kw)

  abbrev found : List OrientedKeypoint
  found = oriented_list img (size_for g.shape) (keypoint_in kw)

  fits : oriented_words * length found ≤ room_lent
  fits = omega (arith, orient_rule.few img (size_for g.shape) (keypoint_in kw))

  back : given_back img (size_for g.shape) k (length out) ≡ on_fault fault (Done (length found)) (Refused fault)
  unfolding given_back answer_of fault
  back = rw (read, room, le-leb (oriented_words * length found) room_lent fits)

  answered : r.answer ≡ given_back img (size_for g.shape) k (length out)
  unfolding orient_answer
  answered = ap (λ (a : OrientAnswer). a.answer) told ∙ rw sized

  fault_told : (number_of r.answer ≡ 0 → ⊥) → eqb fault 0 ≡ false
  fault_told u = fault_there number_of (Done (length found)) (Refused fault) r.answer fault refl (answered ∙ back) u

  pub turn_refused : (number_of r.answer ≡ 0 → ⊥) → (st : Standing) → refused ≡ turn_step g img st kw
  unfolding turn_step fault
  turn_refused u st = rw (fault_told u)

  module _ (n : ℕ) (done : r.answer ≡ Done n) (left : List ℕ) (given : left ≡ orient_out img z k out) where
    all : (eqb fault 0 ≡ true) × (length found ≡ n)
    all =
        let q = fault_none number_of (Done (length found)) (Refused fault) r.answer fault (answered ∙ back) refl (ap number_of done) in
        (q.0, ap count_of (sym q.1 ∙ done))

    left_is : left ≡ pasted 0 (words found) out
    unfolding orient_out
    left_is = given ∙ rw (sized, sym answered ∙ done, read)

    pub turn_room : (oriented_words * n ≤ room_lent) × (length left ≡ room_lent)
    turn_room =
        let w : length (words found) ≡ length found * oriented_words = length_words found in
        (rw (← all.1) fits, rw (left_is, length_pasted 0 (words found) out (omega (arith, fits)), room))

    cut : parts oriented_words n left ≡ map words_of found
    unfolding pasted
    cut = rw (left_is, ← all.1) (parts_joined oriented_words words_of (λ o. refl) words words_joined found _)

    pub turn_made : (st s : Standing) → s ≡ direction_steps g img kw st (parts oriented_words n left) → s ≡ turn_step g img st kw
    unfolding turn_step fault
    turn_made st s q = q ∙ rw (all.0, cut)
