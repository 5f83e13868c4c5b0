-- Nothing of what agreed is kept where a stage refuses a keypoint or one of its directions. Assumes nothing.
use mathlib.Core.Path.{◌≡◌, refl}
use mathlib.Core.List.{List}
use Prim.Native.Nat.{ℕ}
use lib.Dec.{eqb, leb}
use lib.Ieee.{Float}
use Rattle.std.specs.Prelude.{Result}
use Rattle.std.proofs.lemmas.Bool.{cond_both}
use Rattle.orient.specs.Entry.{orient_fault}
use Rattle.words.specs.Keypoint.{keypoint_in}
use Rattle.audit_compare.specs.declared.agreement.Agreement.{Agreement}
use Rattle.audit_compare.specs.declared.agreement.Stopped.{Stopped}
use Rattle.audit_compare.specs.Standing.{refused, standing_of, standing_in, standing_told, Standing}
use Rattle.audit_compare.proofs.Bare.{Bare, bare_good, bare_refused, compared_good, told_in}
use Rattle.audit_keypoint.specs.Pictures.{picture_in}
use Rattle.audit_keypoint.specs.Steps.{Given, size_for, served, direction_step, direction_steps, turn_step, keypoint_step}
use Rattle.audit_keypoint.proofs.Cut.{fold_keeps}

module _ (g : Given) where
  direction_bare : (img : List Float) (kw : List ℕ) (st : Standing) (ow : List ℕ) → Bare st → Bare (direction_step g img kw st ow)
  unfolding direction_step
  direction_bare img kw st ow b =
      cond_both st.good _ st Bare
      (λ good. cond_both (served img (size_for g.shape) g.octave kw ow) _ refused Bare (λ s. bare_good _ (compared_good g.layout g.stated st _ good)) (λ s. bare_refused))
      (λ over. b)

  directions_bare : (img : List Float) (kw : List ℕ) (st : Standing) (ows : List (List ℕ)) → Bare st → Bare (direction_steps g img kw st ows)
  unfolding direction_steps
  directions_bare img kw st ows b = fold_keeps Bare (direction_step g img kw) (direction_bare img kw) st ows b

  turn_bare : (img : List Float) (st : Standing) (kw : List ℕ) → Bare st → Bare (turn_step g img st kw)
  unfolding turn_step
  turn_bare img st kw b = cond_both (eqb (orient_fault img (size_for g.shape) (keypoint_in kw)) 0) _ refused Bare (λ s. directions_bare img kw st _ b) (λ s. bare_refused)

  -- so that what is told is the same without what stands beside a refusal
  pub turned_told : (img : List Float) (kw : List ℕ) (a : Agreement) (r : Result Agreement Stopped) → standing_in r ≡ turn_step g img (standing_of a) kw → standing_told r ≡ turn_step g img (standing_of a) kw
  turned_told img kw a r e = told_in r _ (turn_bare img (standing_of a) kw (bare_good (standing_of a) refl)) e

  pub keypoint_bare : (gauss : List Float) (st : Standing) (kw : List ℕ) → Bare st → Bare (keypoint_step gauss g st kw)
  unfolding keypoint_step
  keypoint_bare gauss st kw b =
      cond_both st.good _ st Bare
      (λ good. cond_both (leb (keypoint_in kw).layer g.shape.planes) _ refused Bare (λ s. turn_bare (picture_in gauss g.shape (keypoint_in kw).layer) st kw b) (λ s. bare_refused))
      (λ over. b)
