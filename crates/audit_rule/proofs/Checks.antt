-- The answer, one check after the other. Assumes nothing.
use Prim.Native.Nat.{ℕ, zero, suc}
use mathlib.Core.Path.{◌≡◌, refl, sym, ap, ◌∙◌}
use mathlib.Core.Bool.{false}
use mathlib.Core.List.{List}
use lib.ListN.{length}
use lib.Ieee.{Float}
use Rattle.params.specs.Table.{first_fault, all_good}
use Rattle.params.specs.declared.Settings.{Settings}
use Rattle.picture.specs.declared.Shape.{Shape}
use Rattle.picture.specs.declared.Size.{Size}
use Rattle.audit_rule.specs.Entry.{form_fault, planes_fault, unless, check_answer}
use Rattle.audit_rule.specs.Left.{answer_left}
use Rattle.audit_verdict.specs.Verdict.{Checked, Refused}

refuses : (f : ℕ) (x : Checked) → (f ≡ 0 → ⊥) → unless f x ≡ Refused f
refuses zero x n = absurd (n refl)
refuses (suc f) x n = refl

module _ (dog gauss : List Float) (t : Shape) (octave : ℕ) (s : Settings) (base : Size) (bs : List ℕ) (f : ℕ) (is : f ≡ form_fault (length dog) (length gauss) t octave s base) where
  in_turn_lem : check_answer dog gauss t octave s base bs ≡ unless f (answer_left dog gauss t octave s base bs)
  unfolding check_answer answer_left
  in_turn_lem = ap (λ (k : ℕ). unless k (answer_left dog gauss t octave s base bs)) (sym is)

  pub form_refused : (f ≡ 0 → ⊥) → Refused f ≡ check_answer dog gauss t octave s base bs
  form_refused n = sym (in_turn_lem ∙ refuses f (answer_left dog gauss t octave s base bs) n)

  module _ (none : f ≡ 0) where
    pub form_passed : answer_left dog gauss t octave s base bs ≡ check_answer dog gauss t octave s base bs
    form_passed = sym (in_turn_lem ∙ ap (λ (k : ℕ). unless k (answer_left dog gauss t octave s base bs)) none)

    pub stack_refused : all_good dog ≡ false → Refused 6 ≡ check_answer dog gauss t octave s base bs
    unfolding answer_left planes_fault first_fault
    stack_refused e = sym (sym form_passed ∙ rw e)
