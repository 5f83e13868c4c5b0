use mathlib.Core.Path.{◌≡◌, sym, ap, ◌∙◌}
use mathlib.Core.Bool.{Bool}
use lib.Ieee.{Float}
use Rattle.std.specs.Prelude.{option_to_list}
use Rattle.detect_extrema.specs.Neighbours.{loud}
use Rattle.detect_extrema.proofs.Cells.{found_quiet, found_yes, found_no}
use Rattle.detect_cell.proofs.cell.Goals as goal

-- what the code tested is what the definition tests
quiet : (b : Bool) (t v v' : Float) → b ≡ loud t v → v ≡ v' → loud t v' ≡ b
quiet b t v v' e q = cc

pub returns-then-not-is_loud : goal.returns-then-not-is_loud
returns-then-not-is_loud c = sym (found_quiet _ _ _ _ _ (quiet _ _ _ _ c.is_loud.ensures c.at.ensures ∙ c.if-not-is_loud.true))

pub returns : goal.returns
returns c =
    let l = quiet _ _ _ _ c.is_loud.ensures c.at.ensures ∙ c.if-not-is_loud.false in
    ap option_to_list c.refine.ensures ∙ sym (found_yes _ _ _ _ _ l (sym c.is_extremum.ensures ∙ c.if-not-is_extremum.false))

pub returns-then-not-is_extremum : goal.returns-then-not-is_extremum
returns-then-not-is_extremum c =
    let l = quiet _ _ _ _ c.is_loud.ensures c.at.ensures ∙ c.if-not-is_loud.false in
    sym (found_no _ _ _ _ _ l (sym c.is_extremum.ensures ∙ c.if-not-is_extremum.true))
