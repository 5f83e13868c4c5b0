use Rattle.std.proofs.Common.{◌≡◌, ℕ, ◌+◌, ◌≤◌, length, drop, map, set, sym, ap, ◌∙◌, arith, rules}
use Rattle.lists.specs.Pasted.{pasted}
use Rattle.sheet.specs.Words.{front_words}
use Rattle.record.specs.Record.{byte_of}
use Rattle.record.proofs.Puts.{value_next, values_end}
use Rattle.record.proofs.put_values.Goals as goal

pub loop-i-preserved : goal.loop-i-preserved
loop-i-preserved c =
    let l = c.loop-i in
    let values = c.args.values.now in
    let room : front_words + length values ≤ length l.out = omega arith in (
      search rules,
      ap (λ (v : ℕ). pasted (front_words + (l.i + 1)) (map byte_of (drop (l.i + 1) values)) (set l.out (front_words + l.i) v)) c.byte_of.ensures
          ∙ value_next values l.out l.i room c.loop-i-test.true ∙ l.invariant.1,
    )

pub returns : goal.returns
returns c =
    let l = c.loop-i in
    sym (values_end _ l.out l.i c.loop-i-test.false) ∙ l.invariant.1
