use mathlib.Core.Path.{ap, ◌∙◌}
use lib.ListN.{length}
use Rattle.descriptor_patch.specs.Patch.{patch_of}
use Rattle.descriptor_run.specs.Cells.{samples_of}
use Rattle.descriptor_words.specs.Words.{turn_at}
use Rattle.descriptor_laws.proofs.ValuesRules.{value_rule}
use Rattle.descriptor_words.proofs.Filled.{in_turn_lem, filled}
use borrow.Author.Rules.{rules}
use Rattle.descriptor_words.proofs.fill.Goals as goal

pub gather-used-requires : goal.gather-used-requires
unfolding turn_at patch_of
gather-used-requires c = let p = c.requires.0 in let t = c.turn_at-t.ensures in rw t.0 (record { whole = p.whole; lies = rw t.0 at t.1; turn = in_turn_lem _ p.aimed.angled }, p.good)

pub put-requires : goal.put-requires
put-requires c = (ap length c.values-v.ensures ∙ value_rule.count _, search rules)

pub returns-clause-value : goal.returns-clause-value
returns-clause-value c =
    let a = c.args in
    let t = c.turn_at-t.ensures.0 in
    let g = c.gather-used.ensures in
    g.1 ∙ ap (λ t. length (samples_of a.img.now t)) t

pub returns-clause-out_after : goal.returns-clause-out_after
returns-clause-out_after c =
    let a = c.args in
    let t = c.turn_at-t.ensures.0 in
    let g = c.gather-used.ensures in
    filled a.img.now a.s a.p _ _ _ _ t g.0 c.values-v.ensures c.put.ensures
