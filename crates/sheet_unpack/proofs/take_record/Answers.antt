use mathlib.Core.Path.{ap, ◌∙◌}
use mathlib.Core.List.{List}
use Prim.Native.Nat.{ℕ, ◌+◌}
use lib.ListN.{set, drop, length-set}
use borrow.Author.Rules.{rules}
use Rattle.lists.specs.Pasted.{pasted}
use Rattle.sheet.specs.Pack.{Bytes}
use Rattle.sheet.specs.Layout.{front_size}
use Rattle.sheet.specs.Words.{plain_words, front_words}
use Rattle.sheet.proofs.Lawful.{lawful_edition, angled_edition}
use Rattle.sheet_edition.specs.Edition.{layout_for}
use Rattle.sheet_fields.specs.Fields.{bytes_front}
use Rattle.sheet_unpack.proofs.Taken.{words_set}
use Rattle.sheet_unpack.proofs.take_record.Goals as goal

pub shape_of-out : goal.shape_of-out
shape_of-out c = simp length-set (search rules)

pub returns : goal.returns
returns c =
    let e = c.args.e in
    let l = layout_for e in
    let bs = c.args.bytes.now in
    let to = c.args.to in
    let g : Bytes bs = (λ i. (c.type_inv.bytes i).fits) in
    let b = c.blank_in-blank in
    let d = c.take_values.ensures ∙ ap (pasted (to + front_words) (drop (front_size l) bs)) c.take_front.ensures in
    ap (λ (x : List ℕ). set x (to + plain_words) b.result) d
    ∙ ap (set (pasted (to + front_words) (drop (front_size l) bs) (pasted to (bytes_front l bs) c.args.out.now)) (to + plain_words)) b.ensures
    ∙ words_set l (lawful_edition e.number) (angled_edition e.number) bs c.requires.bytes_len g to c.args.out.now c.requires.read_words_in_bounds
