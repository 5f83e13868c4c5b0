use mathlib.Core.Path.{sym, ap, ◌∙◌}
use mathlib.Core.Bool.{false≢true}
use Prim.Native.Nat.{ℕ}
use borrow.Author.Tests.{eqb-true, eq-eqb}
use lib.ListN.{get_or}
use Rattle.lists.proofs.Bools.{and_both, both_and}
use Rattle.sheet_edition.specs.Edition.{layout_for}
use Rattle.sheet_unpack.proofs.Taken.{marked, unmarked}
use Rattle.audit_compare.specs.Difference.{fields_of}
use Rattle.audit_compare.proofs.Fields.{field_front, blank_marked, field_none, field_rest}
use Rattle.audit_compare.proofs.field_at.Goals as goal

pub returns-then-i-lt-BLANK : goal.returns-then-i-lt-BLANK
returns-then-i-lt-BLANK c =
    sym (field_front (layout_for c.args.e) c.args.words.now c.requires.0 c.args.i c.if-i-lt-BLANK.true)

pub returns-then-i-gt-ZERO : goal.returns-then-i-gt-ZERO
returns-then-i-gt-ZERO c =
    sym (field_rest (layout_for c.args.e) c.args.words.now c.requires.0 c.args.i c.if-i-gt-ZERO.true c.requires.1)

pub returns-then-i-e : goal.returns-then-i-e
returns-then-i-e c =
    let b = and_both _ _ c.if-i-e.true in
    sym (ap (λ (k : ℕ). get_or (fields_of (layout_for c.args.e) c.args.words.now) k 0) (eqb-true _ _ b.0)
    ∙ blank_marked (layout_for c.args.e) c.args.words.now c.requires.0 (marked c.args.e (eqb-true _ _ b.1)))

pub returns : goal.returns
returns c =
    sym (field_none (layout_for c.args.e) c.args.words.now c.requires.0 c.args.i c.if-i-lt-BLANK.false c.if-i-gt-ZERO.false (λ h. unmarked c.args.e (λ g. false≢true (sym c.if-i-e.false ∙ both_and _ _ (eq-eqb _ _ h) (eq-eqb _ _ g)))))
