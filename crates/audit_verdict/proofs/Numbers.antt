-- What an agreement tells when all records are made, and the number of an answer. Assumes nothing.
use mathlib.Core.Path.{◌≡◌, refl, ap, subst}
use Prim.Native.Nat.{ℕ, ◌<◌, ◌≤◌}
use borrow.Author.Tests.{ne_eqb, lt-ltb, le-ltb}
use Rattle.std.specs.Prelude.{None, Some, Result, Ok, Err, IsErrAnd}
use Rattle.params.specs.Answers.{fault_told, refusal_number}
use Rattle.params.specs.declared.Refusal.{Refusal}
use Rattle.audit_compare.specs.declared.agreement.Difference.TheVariants.{Field, Missing}
use Rattle.audit_compare.specs.declared.agreement.Agreement.{Agreement}
use Rattle.audit_compare.specs.Numbered.{missing, Numbered}
use Rattle.audit_compare.specs.Standing.{standing_of, Standing}
use Rattle.audit_verdict.specs.Told.{told_by}
use Rattle.audit_verdict.specs.Verdict.{Checked, Refused, Accepted, Differs, LeftOver, number_of, verdict_told}
use Rattle.audit_verdict.specs.Verdict as verdict
use Rattle.audit_verdict.specs.declared.Verdict.{Verdict}
use Rattle.audit_verdict.specs.declared.Verdict.TheVariants as answer

module _ (n : ℕ) (a : Agreement) where
  pub told_differs : (k : ℕ) → a.difference ≡ Some (Field k) → Differs a.place k ≡ told_by n (standing_of a)
  unfolding told_by
  told_differs k e =
      let r : Numbered (Some (Field k)) = subst Numbered e a.numbered in
      rw (e, ne_eqb k 0 r.0, ne_eqb k missing r.1)

  pub told_missing : a.difference ≡ Some Missing → verdict.Missing a.place ≡ told_by n (standing_of a)
  unfolding told_by
  told_missing e = rw e

  pub told_over : a.difference ≡ None → a.place < n → LeftOver a.place ≡ told_by n (standing_of a)
  unfolding told_by
  told_over e h = rw (e, lt-ltb a.place n h)

  pub told_all : a.difference ≡ None → n ≤ a.place → Accepted ≡ told_by n (standing_of a)
  unfolding told_by
  told_all e h = rw (e, le-ltb a.place n h)

-- whether a stage has refused is not asked
pub told_alike : (n : ℕ) (x y : Standing) → x.place ≡ y.place → x.field ≡ y.field → told_by n x ≡ told_by n y
unfolding told_by
told_alike n x y p f = rw (p, f)

-- the number of an answer is that of the result it is told from
pub number_told : (r : Result Verdict Refusal) → number_of (verdict_told r) ≡ fault_told r
number_told (Ok answer.Accepted) = refl
number_told (Ok (answer.Header f)) = refl
number_told (Ok (answer.Differs i f)) = refl
number_told (Ok (answer.Missing i)) = refl
number_told (Ok (answer.LeftOver i)) = refl
number_told (Err k) = refl

-- a refusal that is handed on
pub handed_on : (r : Result Verdict Refusal) (x : Refusal) → IsErrAnd r (λ y. y ≡ x) → verdict_told r ≡ Refused (refusal_number x)
handed_on (Ok v) x h = absurd h
handed_on (Err y) x h = ap (λ (k : Refusal). Refused (refusal_number k)) h
