use Rattle.sheet_edition.specs.Edition.{layout_for}
use Rattle.audit_verdict.proofs.Headers.{in_width, in_height, in_layers, nowhere}
use Rattle.audit_verdict.proofs.header_difference.Goals as goal

pub returns-then-wide-h-clause-value : goal.returns-then-wide-h-clause-value
returns-then-wide-h-clause-value c =
    let a = c.args in
    in_width (layout_for a.e) a.h a.base.width a.base.height a.layers c.requires.known c.if-wide-h.true

pub returns-then-high-h-clause-value : goal.returns-then-high-h-clause-value
returns-then-high-h-clause-value c =
    let a = c.args in
    in_height (layout_for a.e) a.h a.base.width a.base.height a.layers c.requires.known c.if-wide-h.false c.if-high-h.true

pub returns-then-layers-h-clause-value : goal.returns-then-layers-h-clause-value
returns-then-layers-h-clause-value c =
    let a = c.args in
    in_layers (layout_for a.e) a.h a.base.width a.base.height a.layers c.requires.known c.if-wide-h.false c.if-high-h.false c.if-layers-h.true

pub returns-clause-value : goal.returns-clause-value
returns-clause-value c =
    let a = c.args in
    nowhere (layout_for a.e) a.h a.base.width a.base.height a.layers c.requires.known c.if-wide-h.false c.if-high-h.false c.if-layers-h.false
