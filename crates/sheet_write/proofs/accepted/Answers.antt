use mathlib.Core.Path.{refl, sym, ap, ◌∙◌}
use Rattle.sheet.specs.Layout.{layout_of}
use Rattle.sheet.specs.Writes.{frame_of}
use Rattle.sheet_edition.specs.Edition.{layout_for}
use Rattle.sheet_edition.proofs.Layouts.{layout_is}
use Rattle.sheet_write.proofs.Written.{sides_fine, shape_told, layers_told, edition_told, layered_told, words_told, none_told}
use Rattle.sheet_write.proofs.accepted.Goals as goal

pub returns-then-sides_wrong : goal.returns-then-sides_wrong
returns-then-sides_wrong c =
    let a = c.args in
    let n = c.from-number.ensures in
    let e = c.edition_of-e.result in
    let h = layout_is c.from-number.result e c.edition_of-e.ensures ∙ ap layout_of n in
    let f = frame_of a.width a.height a.layers in
    let ws = a.words.now in
    shape_told a.edition e h f ws (sym (c.sides_wrong.ensures a.layers) ∙ c.if-sides_wrong.true)

pub returns-then-layers_wrong : goal.returns-then-layers_wrong
returns-then-layers_wrong c =
    let a = c.args in
    let n = c.from-number.ensures in
    let e = c.edition_of-e.result in
    let h = layout_is c.from-number.result e c.edition_of-e.ensures ∙ ap layout_of n in
    let f = frame_of a.width a.height a.layers in
    let ws = a.words.now in
    layers_told a.edition e h f ws (sym (c.sides_wrong.ensures a.layers) ∙ c.if-sides_wrong.false) (sym (c.layers_wrong.ensures a.width a.height) ∙ c.if-layers_wrong.true)

pub returns-then-e-number : goal.returns-then-e-number
returns-then-e-number c =
    let a = c.args in
    let n = c.from-number.ensures in
    let e = c.edition_of-e.result in
    let h = layout_is c.from-number.result e c.edition_of-e.ensures ∙ ap layout_of n in
    let f = frame_of a.width a.height a.layers in
    let ws = a.words.now in
    edition_told a.edition e h f ws (sym (c.sides_wrong.ensures a.layers) ∙ c.if-sides_wrong.false) (sym (c.layers_wrong.ensures a.width a.height) ∙ c.if-layers_wrong.false) (λ z. c.if-e-number.true (z ∙ sym n))

pub returns-then-not-layers_right : goal.returns-then-not-layers_right
returns-then-not-layers_right c =
    let a = c.args in
    let n = c.from-number.ensures in
    let e = c.edition_of-e.result in
    let h = layout_is c.from-number.result e c.edition_of-e.ensures ∙ ap layout_of n in
    let f = frame_of a.width a.height a.layers in
    let ws = a.words.now in
    layered_told a.edition e h f ws (sym (c.sides_wrong.ensures a.layers) ∙ c.if-sides_wrong.false) (sym (c.layers_wrong.ensures a.width a.height) ∙ c.if-layers_wrong.false) (c.if-e-number.false ∙ n) (sym c.layers_right.ensures ∙ c.if-not-layers_right.true)

pub invariant_of-frame : goal.invariant_of-frame
invariant_of-frame c =
    let a = c.args in
    record { sides = sides_fine (layout_for c.edition_of-e.result) (frame_of a.width a.height a.layers) (sym (c.sides_wrong.ensures a.layers) ∙ c.if-sides_wrong.false) }

pub returns-then-words-e : goal.returns-then-words-e
returns-then-words-e c =
    let a = c.args in
    let n = c.from-number.ensures in
    let e = c.edition_of-e.result in
    let h = layout_is c.from-number.result e c.edition_of-e.ensures ∙ ap layout_of n in
    let f = frame_of a.width a.height a.layers in
    let ws = a.words.now in
    words_told a.edition e h f ws (sym (c.sides_wrong.ensures a.layers) ∙ c.if-sides_wrong.false) (sym (c.layers_wrong.ensures a.width a.height) ∙ c.if-layers_wrong.false) (c.if-e-number.false ∙ n) (sym c.layers_right.ensures ∙ c.if-not-layers_right.false) _ c.records_right.ensures c.if-words-e.true

pub returns : goal.returns
returns c =
    let a = c.args in
    let n = c.from-number.ensures in
    let e = c.edition_of-e.result in
    let h = layout_is c.from-number.result e c.edition_of-e.ensures ∙ ap layout_of n in
    let f = frame_of a.width a.height a.layers in
    let ws = a.words.now in
    (none_told a.edition e h f ws (sym (c.sides_wrong.ensures a.layers) ∙ c.if-sides_wrong.false) (sym (c.layers_wrong.ensures a.width a.height) ∙ c.if-layers_wrong.false) (c.if-e-number.false ∙ n) (sym c.layers_right.ensures ∙ c.if-not-layers_right.false) _ c.records_right.ensures c.if-words-e.false, h, refl)
