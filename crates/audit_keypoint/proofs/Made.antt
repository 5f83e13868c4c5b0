-- After a record, by what its maker answers: it refuses, or leaves the record in the words lent. Assumes nothing.
use Prim.Native.Nat.{ℕ}
use mathlib.Core.Path.{◌≡◌, sym, ap, ◌∙◌}
use mathlib.Core.Bool.{cond}
use mathlib.Core.List.{List}
use borrow.Author.Tests.{eq-eqb, ne_eqb}
use lib.Dec.{eqb}
use lib.ListN.{length}
use Rattle.detect_keypoint.specs.declared.RawKeypoint.{RawKeypoint}
use Rattle.orient_words.specs.declared.OrientedKeypoint.{OrientedKeypoint}
use Rattle.record.specs.Record.{record_of}
use Rattle.record.specs.Make.{make_number, make_left}
use Rattle.sheet.specs.Words.{read_words}
use Rattle.sheet.specs.Layout.{Layout}
use Rattle.audit_compare.specs.Standing.{refused, compared, Standing}

module _ (k : RawKeypoint) (o : OrientedKeypoint) (values : List ℕ) (samples : ℕ) (l : Layout) (stated : List (List ℕ)) (st : Standing) (number : ℕ) where
  abbrev After : Standing → Type 0
  After r = r ≡ cond (eqb (make_number k o values samples read_words) 0) (compared l stated st (record_of k o values samples)) refused

  pub made_refused : number ≡ make_number k o values samples read_words → (number ≡ 0 → ⊥) → After refused
  made_refused e n = rw (← e, ne_eqb number 0 n)

  module _ (out made : List ℕ) (room : length out ≡ read_words) (e : number ≡ make_number k o values samples (length out)) (z : number ≡ 0) (left : made ≡ make_left k o values samples out) where
    record_left : made ≡ record_of k o values samples
    unfolding make_left
    record_left = left ∙ rw (sym e ∙ z)

    pub made_compared : (r : Standing) → r ≡ compared l stated st made → After r
    made_compared r q =
        let n = sym (ap (λ (m : ℕ). make_number k o values samples m) room) ∙ sym e ∙ z in
        q ∙ rw (record_left, eq-eqb (make_number k o values samples read_words) 0 n)
