-- The answer and the lent values, by cases: a fault or none, room or none. Assumes nothing.
use Prim.Native.Nat.{ℕ, ◌<◌}
use mathlib.Core.Path.{◌≡◌, refl, sym, ap, ◌∙◌}
use mathlib.Core.Bool.{Bool, true, false}
use mathlib.Core.List.{List, [], ◌∷◌}
use native.Mathlib.Omega.{arith}
use borrow.Author.Tests.{eq-eqb, ne_eqb}
use lib.ListN.{length}
use lib.Ieee.{Float}
use Rattle.std.specs.Prelude.{Result, Err}
use Rattle.params.specs.Limits.{value_count}
use Rattle.params.specs.Table.{line, first_fault}
use Rattle.params.specs.Answers.{refusal_number}
use Rattle.params.specs.declared.Refusal.{Refusal}
use Rattle.params.specs.declared.Refusal.TheVariants.{Shape, Layers, Length, Settings, Fields, Samples, Room, Sheet}
use Rattle.picture.specs.declared.Size.{Size}
use Rattle.descriptor_run.specs.Cells.{samples_of}
use Rattle.descriptor_words.specs.Words.{turn_at, words_at}
use Rattle.picture.specs.declared.Spot.{Spot}
use Rattle.descriptor.specs.Entry.{Done, Short, landed, fault_of, described_of, described_out, refused_told}

-- a refusal of the checks leaves the lent words as they were, and lacks no room
landed_refused : (r : Refusal) (new old : List ℕ) → landed (refused_told r) new old ≡ old
landed_refused Shape new old = refl
landed_refused Layers new old = refl
landed_refused Length new old = refl
landed_refused Settings new old = refl
landed_refused Fields new old = refl
landed_refused Samples new old = refl
landed_refused (Room n) new old = refl
landed_refused Sheet new old = refl

small_fault : (a b c d : Bool) → first_fault (line 1 a ∷ line 3 b ∷ line 5 c ∷ line 6 d ∷ []) < 7
unfolding first_fault
small_fault true b c d = omega arith
small_fault false true c d = omega arith
small_fault false false true d = omega arith
small_fault false false false true = omega arith
small_fault false false false false = omega arith

module _ (img : List Float) (s : Size) (p : Spot) where
  abbrev fault : ℕ
  fault = fault_of img s p

  abbrev used : ℕ
  used = length (samples_of img (turn_at s p))

  fault_small : fault < 7
  unfolding fault_of
  fault_small = small_fault _ _ _ _

  pub answer_refused : (r : Refusal) (room : ℕ) → refusal_number r ≡ fault → refused_told r ≡ described_of img s p room
  unfolding described_of
  answer_refused Shape room e = rw (← e)
  answer_refused Layers room e = rw (← e)
  answer_refused Length room e = rw (← e)
  answer_refused Settings room e = rw (← e)
  answer_refused Fields room e = rw (← e)
  answer_refused Samples room e = rw (← e)
  answer_refused (Room n) room e = absurd (omega (arith, fault_small))
  answer_refused Sheet room e = rw (← e)

  pub out_refused : (r : Refusal) (out : List ℕ) → refusal_number r ≡ fault → out ≡ described_out img s p out
  unfolding described_out
  out_refused r out e = rw (← answer_refused r (length out) e) (sym (landed_refused r (words_at img s p) out))

  pub room_refused : {a : Result ℕ Refusal} {x : Refusal} (r : Refusal) → refusal_number r ≡ fault → a ≡ Err x → x ≡ r → (n : ℕ) → a ≡ Err (Room n) → n ≡ value_count
  room_refused {a} {x} r e f g n h =
      let k : r ≡ Room n = cc in
      let j : 7 ≡ fault = sym (ap refusal_number k) ∙ e in
      absurd (omega (arith, fault_small))

  module _ (fine : fault ≡ 0) where
    pub answer_short : (room : ℕ) → (room ≡ value_count → ⊥) → Short ≡ described_of img s p room
    unfolding described_of
    answer_short room n = rw (fine, ne_eqb room value_count n)

    pub out_short : (out : List ℕ) → (length out ≡ value_count → ⊥) → out ≡ described_out img s p out
    unfolding described_out
    out_short out n = rw (← answer_short (length out) n)

    pub answer_done : (n room : ℕ) → n ≡ used → room ≡ value_count → Done n ≡ described_of img s p room
    unfolding described_of
    answer_done n room e r = rw (fine, eq-eqb room value_count r, e)

    pub out_done : (n : ℕ) (out new : List ℕ) → n ≡ used → length out ≡ value_count → new ≡ words_at img s p → new ≡ described_out img s p out
    unfolding described_out
    out_done n out new e r v = rw (← answer_done n (length out) e r) v
