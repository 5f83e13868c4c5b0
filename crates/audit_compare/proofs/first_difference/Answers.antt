use mathlib.Core.Path.{refl, sym, ◌∙◌}
use Prim.Native.Nat.{◌+◌}
use native.Mathlib.Omega.{arith}
use borrow.Author.Rules.{rules}
use Rattle.sheet_edition.specs.Edition.{layout_for}
use Rattle.audit_compare.specs.Difference.{fields_of}
use Rattle.audit_compare.proofs.Fields.{fields_length}
use Rattle.audit_compare.proofs.Differs.{differs_on, differs_here, differs_end}
use Rattle.audit_compare.proofs.first_difference.Goals as goal

pub loop-i-init : goal.loop-i-init
loop-i-init c = (search rules, refl)

pub returns-then-field_at-clause-value : goal.returns-then-field_at-clause-value
returns-then-field_at-clause-value c =
    let t = c.loop-i in
    let l = layout_for c.args.e in
    sym (differs_here (fields_of l c.args.one.now) (fields_of l c.args.other.now) t.i (omega (arith, fields_length l c.args.one.now c.requires.0)) (omega (arith, fields_length l c.args.other.now c.requires.1)) (λ h. c.if-field_at.true (c.field_at.ensures ∙ h ∙ sym c.field_at-in-loop-i.ensures)))
    ∙ t.invariant.1

pub loop-i-preserved : goal.loop-i-preserved
loop-i-preserved c =
    let t = c.loop-i in
    let l = layout_for c.args.e in (
      omega arith,
      differs_on (fields_of l c.args.one.now) (fields_of l c.args.other.now) t.i (omega (arith, fields_length l c.args.one.now c.requires.0)) (omega (arith, fields_length l c.args.other.now c.requires.1)) (sym c.field_at.ensures ∙ c.if-field_at.false ∙ c.field_at-in-loop-i.ensures)
          ∙ t.invariant.1,
    )

pub returns-clause-value : goal.returns-clause-value
returns-clause-value c =
    let t = c.loop-i in
    let l = layout_for c.args.e in
    sym (differs_end (fields_of l c.args.one.now) (fields_of l c.args.other.now) (t.i + 1) t.i (omega (arith, fields_length l c.args.one.now c.requires.0))) ∙ t.invariant.1
