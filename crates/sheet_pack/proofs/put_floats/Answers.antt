use Rattle.std.proofs.Common.{◌≡◌, ◌+◌, ◌-◌, ◌*◌, ◌≤◌, ◌<◌, ◌∙◌, sym, ap, ℕ, List, arith, rules, length, take, drop, get_or, length-take, length-drop}
use mathlib.Core.List.{flat_map}
use Rattle.lists.specs.Pasted.{pasted}
use Rattle.sheet.specs.Pack.{bytes}
use Rattle.sheet.specs.Words.{head_words, float_words}
use Rattle.sheet.proofs.Steps.{floats_next, floats_end}
use Rattle.sheet_pack.proofs.put_floats.Goals as goal

pub loop-i-preserved : goal.loop-i-preserved
loop-i-preserved c =
    let l = c.loop-i in
    let floats = take float_words (drop head_words c.args.words.now) in
    let room : c.args.at + 4 * length floats ≤ length l.out = simp (length-take, length-drop) (omega arith) in
    let e : c.put.new.out ≡ pasted (c.args.at + 4 * l.i) (bytes 4 (get_or floats l.i 0)) l.out =
    c.put.ensures ∙ ap (λ (n : ℕ). pasted (c.args.at + 4 * l.i) (bytes 4 n) l.out) c.from.ensures in (
      search rules,
      ap (λ (d : List ℕ). pasted (c.args.at + 4 * (l.i + 1)) (flat_map (bytes 4) (drop (l.i + 1) floats)) d) e
          ∙ floats_next l.i c.args.at floats l.out c.loop-i-test.true room ∙ l.invariant.1,
    )

pub returns : goal.returns
returns c =
    let l = c.loop-i in
    sym (floats_end l.i _ _ l.out c.loop-i-test.false) ∙ l.invariant.1
