-- The inputs as words: the number, and what is left in the lent words. Assumes nothing.
use Prim.Native.Nat.{ℕ, zero, suc}
use mathlib.Core.Path.{◌≡◌, refl, sym, ap, ◌∙◌}
use mathlib.Core.List.{List, [], ◌∷◌}
use native.Mathlib.Omega.{arith}
use borrow.Author.Tests.{eq-eqb, ne_eqb}
use lib.ListN.{length}
use Rattle.std.specs.Prelude.{Result, Ok, Err}
use Rattle.std.specs.Result.{IsErrAnd}
use Rattle.ieee.specs.F32.{bits_of}
use Rattle.params.specs.Answers.{refusal_number, fault_told}
use Rattle.params.specs.declared.Refusal.{Refusal}
use Rattle.params.specs.declared.Refusal.TheVariants.{Shape, Layers, Length, Settings, Fields, Samples, Room, Sheet}
use Rattle.picture.specs.declared.Spot.{Spot}
use Rattle.descriptor_inputs.specs.Inputs.{Inputs, inputs_told}
use Rattle.words.specs.Inputs.{input_words, words_out, inputs_number, inputs_left}

module _ (i : Inputs) (out : List ℕ) where
  number_refused : (n room : ℕ) → n ≡ i.number → (n ≡ 0 → ⊥) → n ≡ inputs_number i room
  unfolding inputs_number
  number_refused zero room e h = absurd (h refl)
  number_refused (suc n) room e h = rw (← e)

  left_refused : (n : ℕ) → n ≡ inputs_number i (length out) → (n ≡ 0 → ⊥) → out ≡ inputs_left i out
  unfolding inputs_left
  left_refused zero e h = absurd (h refl)
  left_refused (suc n) e h = rw (← e)

  refused : (i.number ≡ 0 → ⊥) → (i.number ≡ inputs_number i (length out)) × (out ≡ inputs_left i out)
  refused h =
      let e = number_refused i.number (length out) refl h in
      (e, left_refused i.number e h)

  short : i.number ≡ 0 → (length out ≡ input_words → ⊥) → (7 ≡ inputs_number i (length out)) × (out ≡ inputs_left i out)
  unfolding inputs_number inputs_left
  short z n = (rw (z, ne_eqb (length out) input_words n), rw (z, ne_eqb (length out) input_words n))

  done : (new : List ℕ) → i.number ≡ 0 → length out ≡ input_words → new ≡ words_out i → (0 ≡ inputs_number i (length out)) × (new ≡ inputs_left i out)
  unfolding inputs_number inputs_left
  done new z l w = (rw (z, eq-eqb (length out) input_words l), w ∙ rw (z, eq-eqb (length out) input_words l))

-- a refusal has a number
number_some : (r : Refusal) → refusal_number r ≡ 0 → ⊥
number_some Shape z = omega arith
number_some Layers z = omega arith
number_some Length z = omega arith
number_some Settings z = omega arith
number_some Fields z = omega arith
number_some Samples z = omega arith
number_some (Room n) z = omega arith
number_some Sheet z = omega arith

err_told : (r : Result (Unit {0}) Refusal) (x : Refusal) → IsErrAnd r (λ y. y ≡ x) → fault_told r ≡ refusal_number x
err_told (Ok u) x h = absurd h
err_told (Err y) x h = ap refusal_number h

-- the same of what the code is handed
module _ (i : Result Spot Refusal) (out : List ℕ) where
  pub refused_told : (x : Refusal) → i ≡ Err x → (r : Result (Unit {0}) Refusal) → IsErrAnd r (λ y. y ≡ x) →
      (fault_told r ≡ inputs_number (inputs_told i) (length out)) × (out ≡ inputs_left (inputs_told i) out)
  refused_told x e r h =
      let n : (inputs_told i).number ≡ refusal_number x = ap (λ (j : Result Spot Refusal). (inputs_told j).number) e in
      let t = refused (inputs_told i) out (λ z. number_some x (sym n ∙ z)) in
      (err_told r x h ∙ sym n ∙ t.0, t.1)

  module _ (spot : Spot) (e : i ≡ Ok spot) where
    none : (inputs_told i).number ≡ 0
    none = ap (λ (j : Result Spot Refusal). (inputs_told j).number) e

    pub short_told : (length out ≡ input_words → ⊥) → (7 ≡ inputs_number (inputs_told i) (length out)) × (out ≡ inputs_left (inputs_told i) out)
    short_told n = short (inputs_told i) out none n

    pub done_told : (new : List ℕ) → length out ≡ input_words → new ≡ bits_of spot.x ∷ bits_of spot.y ∷ bits_of spot.scale ∷ bits_of spot.angle ∷ [] →
        (0 ≡ inputs_number (inputs_told i) (length out)) × (new ≡ inputs_left (inputs_told i) out)
    done_told new l w = done (inputs_told i) out new none l (w ∙ sym (ap (λ (j : Result Spot Refusal). words_out (inputs_told j)) e))
