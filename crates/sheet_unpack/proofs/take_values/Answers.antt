use Rattle.std.proofs.Common.{◌≡◌, ◌+◌, ◌-◌, ◌≤◌, ◌∙◌, sym, ap, ℕ, List, arith, rules, length, set, drop, length-drop}
use Rattle.lists.specs.Pasted.{pasted}
use Rattle.params.specs.Limits.{value_count}
use Rattle.sheet.specs.Layout.{front_size}
use Rattle.sheet.proofs.Steps.{copy_next, copy_end}
use Rattle.sheet_edition.specs.Edition.{layout_for}
use Rattle.sheet_edition.proofs.Layouts.{size_is}
use Rattle.sheet_unpack.proofs.take_values.Goals as goal

pub loop-i-preserved : goal.loop-i-preserved
loop-i-preserved c =
    let l = c.loop-i in
    let values = c.values_in-value-items.result.now in
    let many : length values ≡ length c.args.bytes.now - front_size (layout_for c.args.e) = ap length c.values_in-value-items.ensures ∙ length-drop _ _ in
    let room : c.args.to + length values ≤ length l.out = omega (arith, size_is c.args.e) in (
      search rules,
      ap (λ (v : ℕ). pasted (c.args.to + (l.i + 1)) (drop (l.i + 1) values) (set l.out (c.args.to + l.i) v)) c.from.ensures
          ∙ copy_next l.i c.args.to values l.out c.loop-i-test.true room ∙ l.invariant.1,
    )

pub returns : goal.returns
returns c =
    let l = c.loop-i in
    sym (copy_end l.i _ _ l.out c.loop-i-test.false) ∙ l.invariant.1 ∙ ap (λ (v : List ℕ). pasted c.args.to v c.args.out.now) c.values_in-value-items.ensures
