-- After the record of a direction, by cases: nothing is made after a refusal, a stage refuses, or the record is compared. Assumes nothing.
use Prim.Native.Nat.{ℕ, ◌≤◌}
use mathlib.Core.Path.{◌≡◌, refl, sym, ap, ◌∙◌}
use mathlib.Core.Bool.{true, false, not, cond, and-false}
use mathlib.Core.List.{List}
use native.Mathlib.Omega.{arith}
use borrow.Author.Tests.{eq-eqb, ne_eqb, not-true, not-false}
use mir.Syntax.{w32}
use mir.Val.{to_z}
use mir.ValLaws.{to_z_pos}
use lib.Dec.{eqb}
use lib.IntN.{pos}
use lib.ListN.{length}
use lib.Ieee.{Float}
use Rattle.params.specs.Limits.{max_octave, value_count}
use Rattle.params.specs.Answers.{on_fault}
use Rattle.params.specs.declared.Refusal.{Refusal}
use Rattle.params.specs.declared.Refusal.TheVariants.{Shape, Layers, Length, Settings, Fields, Samples, Room, Sheet}
use Rattle.picture.specs.declared.Size.{Size}
use Rattle.orient_words.specs.declared.OrientedKeypoint.{OrientedKeypoint}
use Rattle.descriptor_inputs.specs.Inputs.{inputs_of, Inputs}
use Rattle.descriptor_run.specs.Cells.{samples_of}
use Rattle.descriptor_words.specs.Words.{turn_at, words_at}
use Rattle.picture.specs.declared.Spot.{Spot}
use Rattle.descriptor.specs.Entry.{fault_of, described_of, described_out, number_of, used_of, refused_told, Described, Done, Refused}
use Rattle.words.specs.Keypoint.{keypoint_in}
use Rattle.words.specs.Oriented.{oriented_in}
use Rattle.record.specs.Record.{record_of}
use Rattle.record.specs.Make.{make_number}
use Rattle.sheet.specs.Words.{read_words}
use Rattle.audit_compare.specs.Standing.{refused, compared, Standing}
use Rattle.audit_keypoint.specs.Steps.{served, made_of, Given, size_for, direction_step}
use Rattle.audit_keypoint.proofs.Fault.{fault_there, fault_none}

-- ---- the descriptor's inputs: an octave is the same signed

pub inputs_told : (octave : ℕ) → octave ≤ max_octave → (i : Inputs) (o o' : OrientedKeypoint) → o ≡ o' → i ≡ inputs_of o (to_z w32 octave) → i ≡ inputs_of o' (pos octave)
inputs_told octave low i o o' e h = h ∙ rw (to_z_pos w32 octave (omega arith), e)

-- the spot of a descriptor's inputs
abbrev spot_of : Inputs → Spot
spot_of i = record { x = i.x; y = i.y; scale = i.scale; angle = i.angle }

module _ (img : List Float) (z : Size) (p : Spot) (out : List ℕ) (d : Described) (room : length out ≡ value_count) (e : d ≡ described_of img z p (length out)) where
  abbrev fine : Described
  fine = Done (length (samples_of img (turn_at z p)))

  abbrev refusal : Described
  refusal = Refused (fault_of img z p)

  given : d ≡ on_fault (fault_of img z p) fine refusal
  unfolding described_of
  given = e ∙ rw room

  fault_told : (number_of d ≡ 0 → ⊥) → eqb (fault_of img z p) 0 ≡ false
  fault_told k = fault_there number_of fine refusal d (fault_of img z p) refl given k

  described : (m : ℕ) → d ≡ Done m → (eqb (fault_of img z p) 0 ≡ true) × ((length (samples_of img (turn_at z p)) ≡ m) × (described_out img z p out ≡ words_at img z p))
  unfolding described_out
  described m k =
      let q = fault_none number_of fine refusal d (fault_of img z p) given refl (ap number_of k) in
      (q.0, (ap used_of (sym q.1 ∙ k), rw (sym e ∙ k)))

-- a refusal of the descriptor has a number
pub undescribed : (r : Refusal) → number_of (refused_told r) ≡ 0 → ⊥
undescribed Shape z = omega arith
undescribed Layers z = omega arith
undescribed Length z = omega arith
undescribed Settings z = omega arith
undescribed Fields z = omega arith
undescribed Samples z = omega arith
undescribed (Room n) z = omega arith
undescribed Sheet z = omega arith

-- ---- the step

module _ (g : Given) (img : List Float) (kw ow : List ℕ) (st : Standing) where
  pub step_over : not st.good ≡ true → st ≡ direction_step g img kw st ow
  unfolding direction_step
  step_over e = rw (not-true st.good e)

  module _ (good : not st.good ≡ false) (i : Inputs) (fit : i ≡ inputs_of (oriented_in ow) (pos g.octave)) where
    unserved : served img (size_for g.shape) g.octave kw ow ≡ false → refused ≡ direction_step g img kw st ow
    unfolding direction_step
    unserved e = rw (not-false st.good good, e)

    unfit : (i.number ≡ 0 → ⊥) → served img (size_for g.shape) g.octave kw ow ≡ false
    unfolding served
    unfit n = rw (← fit, ne_eqb i.number 0 n)

    pub step_unfit : (i.number ≡ 0 → ⊥) → refused ≡ direction_step g img kw st ow
    step_unfit n = unserved (unfit n)

    module _ (out : List ℕ) (d : Described) (room : length out ≡ value_count) (z : Size) (sized : z ≡ size_for g.shape) (told : d ≡ described_of img z (spot_of i) (length out)) where
      here : d ≡ described_of img (size_for g.shape) (spot_of i) (length out)
      here = told ∙ ap (λ (y : Size). described_of img y (spot_of i) (length out)) sized

      fault_at : (number_of d ≡ 0 → ⊥) → served img (size_for g.shape) g.octave kw ow ≡ false
      unfolding served
      fault_at k = rw (← fit, fault_told img (size_for g.shape) (spot_of i) out d room here k, and-false)

      pub step_undescribed : (number_of d ≡ 0 → ⊥) → refused ≡ direction_step g img kw st ow
      step_undescribed k = unserved (fault_at k)

      pub step_made : (i.number ≡ 0) → (m : ℕ) → d ≡ Done m → (values : List ℕ) → values ≡ described_out img z (spot_of i) out → (r : Standing) →
          r ≡ cond (eqb (make_number (keypoint_in kw) (oriented_in ow) values m read_words) 0) (compared g.layout g.stated st (record_of (keypoint_in kw) (oriented_in ow) values m)) refused →
          r ≡ direction_step g img kw st ow
      unfolding direction_step served made_of
      step_made n m k values v r q =
          let b = described img (size_for g.shape) (spot_of i) out d room here m k in
          let w = v ∙ ap (λ (y : Size). described_out img y (spot_of i) out) sized in
          q ∙ rw (not-false st.good good, ← fit, eq-eqb i.number 0 n, b.0, b.1.0, ← b.1.1, ← w)
