use mathlib.Core.Path.{sym, ◌∙◌, subst}
use mathlib.Core.Bool.{not}
use lib.Dec.{T}
use lib.Ieee.{Float, binary32, add, mul, is_nan}
use Rattle.hal_angle.specs.Numbers.{shift}
use Rattle.hal_angle.proofs.AngleTable.{row, step_number, direction_at}
use Rattle.hal_angle.proofs.direction.Goals as goal

pub along-q-requires : goal.along-q-requires
along-q-requires c =
    let s = c.args in
    subst (λ (z : Float). T (not (is_nan (add binary32 (mul binary32 s.ahead z) shift)))) (sym (c.quarter-row.ensures.steps ∙ (row s.left s.down).steps)) (step_number s.left s.down s.ahead c.requires)

pub returns : goal.returns
returns c =
    let h = c.quarter-row.ensures in
    direction_at c.args.left c.args.down c.args.ahead h.middle h.steps h.least h.largest c.along-q.ensures c.greater.ensures c.lesser.ensures
