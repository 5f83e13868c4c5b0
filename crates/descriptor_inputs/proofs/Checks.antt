-- The tests of the inputs, and which answer they lead to. Assumes nothing.
use Prim.Native.Nat.{◌*◌, ◌≤◌}
use mathlib.Core.Path.{◌≡◌, refl, sym, ◌∙◌}
use mathlib.Core.Bool.{Bool, true, false, not, ◌||◌, beq, true≢false, false≢true}
use native.Mathlib.Omega.{arith}
use borrow.Author.Tests.{ltb-false, le-ltb, eq-eqb}
use lib.Dec.{T}
use lib.IntN.{ℤ, pos, negsuc, nat_abs}
use lib.Signed.{lt_z, non_neg}
use lib.Ieee.{Float, nan, inf, fin, up, down, eq, is_nan}
use lib.Ieee.Scale.{finite}
use mir.Syntax.{w32}
use mir.Val.{SFits, to_z, of_z}
use mir.ValLaws.{to_z-of_z}
use Rattle.params.specs.Limits.{max_octave}
use Rattle.params.specs.Table.{first_fault}
use Rattle.orient_words.specs.declared.OrientedKeypoint.{OrientedKeypoint}
use Rattle.descriptor_inputs.specs.Inputs.{octave_wrong, octave_of, oriented_wrong, inputs_fault, given_of, refused_with, inputs_of}

-- ---- the response: only a not-a-number differs from itself
same_sign : (s : Bool) → beq s s ≡ true
same_sign true = refl
same_sign false = refl

pub eq_self : (x : Float) → eq x x ≡ not (is_nan x)
unfolding eq is_nan
eq_self nan = refl
eq_self (inf s) = same_sign s
eq_self (fin s m e) = rw (eq-eqb (m * up e * down e) (m * up e * down e) refl, same_sign s)

pub finite_number : (x : Float) → finite x ≡ true → is_nan x ≡ false
unfolding is_nan
finite_number nan h = absurd (false≢true h)
finite_number (inf s) h = refl
finite_number (fin s m e) h = refl

-- ---- the octave
pub octave_test_lem : (z : ℤ) → (lt_z z (pos 0) || lt_z (pos 15) z) ≡ octave_wrong z
octave_test_lem (pos n) = rw (le-ltb n 0 (omega arith))
octave_test_lem (negsuc n) = refl

-- a test of what was passed, read back from its bits
pub octave_told : (b r : Bool) (z : ℤ) → SFits w32 z → r ≡ octave_wrong (to_z w32 (of_z w32 z)) → r ≡ b → octave_wrong z ≡ b
octave_told b r z fits e f = rw (to_z-of_z w32 z fits) at (sym e ∙ f)

pub octave_from : (z : ℤ) → octave_wrong z ≡ false → T (non_neg z)
octave_from (pos n) e = tt
octave_from (negsuc n) e = absurd (true≢false e)

pub octave_to : (z : ℤ) → octave_wrong z ≡ false → nat_abs z ≤ max_octave
octave_to (pos n) e = ltb-false max_octave n e
octave_to (negsuc n) e = absurd (true≢false e)

pub octave_is : (z : ℤ) → octave_wrong z ≡ false → nat_abs z ≡ octave_of z
octave_is (pos n) e = refl
octave_is (negsuc n) e = absurd (true≢false e)

module _ (o : OrientedKeypoint) (z : ℤ) where
  pub refused_octave : octave_wrong z ≡ true → refused_with 4 ≡ inputs_of o z
  unfolding inputs_of inputs_fault first_fault
  refused_octave e = rw e

  pub refused_keypoint : octave_wrong z ≡ false → oriented_wrong o ≡ true → refused_with 5 ≡ inputs_of o z
  unfolding inputs_of inputs_fault first_fault
  refused_keypoint e f = rw (e, f)

  pub accepted : octave_wrong z ≡ false → oriented_wrong o ≡ false → given_of o (octave_of z) ≡ inputs_of o z
  unfolding inputs_of inputs_fault first_fault
  accepted e f = rw (e, f)
