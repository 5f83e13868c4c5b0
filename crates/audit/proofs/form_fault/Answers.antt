use native.Mathlib.Omega.{arith}
use mathlib.Core.Path.{◌≡◌, sym, ◌∙◌}
use mathlib.Core.Bool.{false}
use Rattle.params.specs.Table.{layers_wrong}
use Rattle.audit_rule.proofs.Form.{fault_sides, fault_layers, fits, fault_lengths, fault_settings, fault_none}
use Rattle.audit.proofs.form_fault.Goals as goal
use Rattle.audit.proofs.form_fault.Goals.{Else-layers_wrong}

pub returns-then-shape_wrong : goal.returns-then-shape_wrong
returns-then-shape_wrong c =
    let a = c.args in
    fault_sides a.dogs a.gausses a.t a.octave a.s a.base c.shape_wrong.result c.shape_wrong-2.result c.shape_wrong.ensures c.shape_wrong-2.ensures c.if-shape_wrong.true

pub returns-then-layers_wrong : goal.returns-then-layers_wrong
returns-then-layers_wrong c =
    let a = c.args in
    fault_layers a.dogs a.gausses a.t a.octave a.s a.base c.shape_wrong.result c.shape_wrong-2.result c.shape_wrong.ensures c.shape_wrong-2.ensures c.if-shape_wrong.false (sym c.layers_wrong.ensures ∙ c.if-layers_wrong.true)

-- the layers are right
layers : (c : Else-layers_wrong) → let a = c.args in layers_wrong a.t.planes 1 a.s.layers ≡ false
layers c = sym c.layers_wrong.ensures ∙ c.if-layers_wrong.false

pub overflow_mul-t : goal.overflow_mul-t
overflow_mul-t c =
    let a = c.args in
    omega (arith, fits a.dogs a.gausses a.t a.octave a.s a.base c.shape_wrong.result c.shape_wrong-2.result c.shape_wrong.ensures c.shape_wrong-2.ensures c.if-shape_wrong.false (layers c.before))

pub overflow_mul-t-2 : goal.overflow_mul-t-2
overflow_mul-t-2 c =
    let a = c.args in
    omega (arith, fits a.dogs a.gausses a.t a.octave a.s a.base c.shape_wrong.result c.shape_wrong-2.result c.shape_wrong.ensures c.shape_wrong-2.ensures c.if-shape_wrong.false (layers c.before.before))

pub overflow_add-t : goal.overflow_add-t
overflow_add-t c =
    let a = c.args in
    omega (arith, fits a.dogs a.gausses a.t a.octave a.s a.base c.shape_wrong.result c.shape_wrong-2.result c.shape_wrong.ensures c.shape_wrong-2.ensures c.if-shape_wrong.false (layers c.before.before.before))

pub overflow_mul-t-3 : goal.overflow_mul-t-3
overflow_mul-t-3 c =
    let a = c.args in
    omega (arith, fits a.dogs a.gausses a.t a.octave a.s a.base c.shape_wrong.result c.shape_wrong-2.result c.shape_wrong.ensures c.shape_wrong-2.ensures c.if-shape_wrong.false (layers c.before.before.before.before))

pub overflow_mul-t-4 : goal.overflow_mul-t-4
overflow_mul-t-4 c =
    let a = c.args in
    omega (arith, fits a.dogs a.gausses a.t a.octave a.s a.base c.shape_wrong.result c.shape_wrong-2.result c.shape_wrong.ensures c.shape_wrong-2.ensures c.if-shape_wrong.false (layers c.before.before.before.before))

pub returns-then-dogs-t : goal.returns-then-dogs-t
returns-then-dogs-t c =
    let a = c.args in
    fault_lengths a.dogs a.gausses a.t a.octave a.s a.base c.shape_wrong.result c.shape_wrong-2.result c.shape_wrong.ensures c.shape_wrong-2.ensures c.if-shape_wrong.false (layers c.before.before.before.before.before) c.if-dogs-t.true

pub returns-then-settings_wrong : goal.returns-then-settings_wrong
returns-then-settings_wrong c =
    let a = c.args in
    fault_settings a.dogs a.gausses a.t a.octave a.s a.base c.shape_wrong.result c.shape_wrong-2.result c.shape_wrong.ensures c.shape_wrong-2.ensures c.if-shape_wrong.false (layers c.before.before.before.before.before.before.before) c.if-dogs-t.false (sym c.settings_wrong.ensures ∙ c.if-settings_wrong.true)

pub returns : goal.returns
returns c =
    let a = c.args in
    fault_none a.dogs a.gausses a.t a.octave a.s a.base c.shape_wrong.result c.shape_wrong-2.result c.shape_wrong.ensures c.shape_wrong-2.ensures c.if-shape_wrong.false (layers c.before.before.before.before.before.before.before) c.if-dogs-t.false (sym c.settings_wrong.ensures ∙ c.if-settings_wrong.false)
