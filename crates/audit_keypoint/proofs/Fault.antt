-- What an answer tells of the fault behind it: a number, that there is one; none, that there is none. Assumes nothing.
use Prim.Native.Nat.{ℕ, zero, suc}
use mathlib.Core.Path.{◌≡◌, refl, sym, ap, ◌∙◌}
use mathlib.Core.Bool.{true, false, false≢true}
use native.Mathlib.Nat.{suc-ne-zero}
use native.Mathlib.Omega.{arith}
use borrow.Author.Tests.{ne_eqb}
use lib.Dec.{eqb}
use Rattle.std.specs.Prelude.{Result, Ok, Err, IsErr, IsErrAnd}
use Rattle.params.specs.Answers.{on_fault, refusal_number}
use Rattle.params.specs.declared.Refusal.{Refusal}
use Rattle.params.specs.declared.Refusal.TheVariants.{Shape, Layers, Length, Settings, Fields, Samples, Room, Sheet}
use Rattle.audit_compare.specs.declared.agreement.Agreement.{Agreement}
use Rattle.audit_compare.specs.declared.agreement.Stopped.{Stopped}
use Rattle.audit_compare.specs.Standing.{refused, standing_in, standing_told}

-- a refusal has a number
pub number_some : (r : Refusal) → refusal_number r ≡ 0 → ⊥
number_some Shape z = omega arith
number_some Layers z = omega arith
number_some Length z = omega arith
number_some Settings z = omega arith
number_some Fields z = omega arith
number_some Samples z = omega arith
number_some (Room n) z = omega arith
number_some Sheet z = omega arith

-- what a stage's refusal becomes, and what is told of it
pub stopped_bare : (r : Result Agreement Stopped) → IsErrAnd r (λ y. standing_in (Err y) ≡ refused) → standing_in r ≡ refused
stopped_bare (Ok a) h = absurd h
stopped_bare (Err y) h = h

pub stopped : (r : Result Agreement Stopped) → IsErr r → standing_told r ≡ refused
stopped (Ok a) h = absurd (false≢true h)
stopped (Err y) h = refl

-- and one that is handed on
pub handed_on : (r : Result Agreement Stopped) (x : Stopped) → IsErrAnd r (λ y. y ≡ x) → standing_in r ≡ standing_in (Err x)
handed_on (Ok a) x h = absurd h
handed_on (Err y) x h = ap (λ (k : Stopped). standing_in (Err k)) h

module _ {A : Type 0} (number : A → ℕ) (done refusal a : A) where
  pub fault_there : (fault : ℕ) → number done ≡ 0 → a ≡ on_fault fault done refusal → (number a ≡ 0 → ⊥) → eqb fault 0 ≡ false
  fault_there zero d e k = absurd (k (ap number e ∙ d))
  fault_there (suc f) d e k = ne_eqb (suc f) 0 (suc-ne-zero f)

  pub fault_none : (fault : ℕ) → a ≡ on_fault fault done refusal → number refusal ≡ fault → number a ≡ 0 → (eqb fault 0 ≡ true) × (a ≡ done)
  fault_none zero e n z = (refl, e)
  fault_none (suc f) e n z = absurd (suc-ne-zero f (sym n ∙ ap number (sym e) ∙ z))
