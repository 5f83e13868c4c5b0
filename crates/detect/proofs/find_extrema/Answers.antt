use mathlib.Core.Path.{◌≡◌}
use mathlib.Core.List.{[]}
use Rattle.std.proofs.lemmas.Result.{err_from_is_err_and}
use Rattle.detect_extrema.proofs.Rows.{few_rows, few_columns}
use Rattle.detect_room.proofs.Room.{none}
use Rattle.detect.specs.Entry.{list_of}
use Rattle.detect.proofs.Answers.{ill_formed, well_formed}
use Rattle.detect.proofs.find_extrema.Goals as goal
use Rattle.detect.proofs.find_extrema.Goals.{then-t-le-BORDERS-via-then-t-le-BORDERS, then-t-le-BORDERS-via-else-t-le-BORDERS+then-t-le-BORDERS-2}

pub returns-in_err-fault : goal.returns-in_err-fault
returns-in_err-fault c =
    let a = c.args in
    let w = ill_formed a.dog.now a.t a.layer a.octave a.s a.out.now _ c.in_err-fault.ensures.value in
    let p = err_from_is_err_and c.from_residual.result c.from_residual.ensures.1 in
    record { value = rw (p.1, p.2) w.0; out_after = w.1 }

pub returns-then-t-le-BORDERS : goal.returns-then-t-le-BORDERS
returns-then-t-le-BORDERS c =
    let a = c.args in
    let empty : list_of a.dog.now a.t a.layer a.octave a.s ≡ [] =
    elim c.then-t-le-BORDERS.branch [
      | then-t-le-BORDERS-via-then-t-le-BORDERS w ↦ few_columns _ _ _ _ w.if-t-le-BORDERS.true
      | then-t-le-BORDERS-via-else-t-le-BORDERS+then-t-le-BORDERS-2 w ↦ few_rows _ _ _ _ w.if-t-le-BORDERS-2.true
    ] in
    let w = well_formed a.dog.now a.t a.layer a.octave a.s a.out.now c.in_ok-fault.ensures.value _ _ (none _ _ _ empty _ c.nothing.ensures) in
    record { value = w.0; out_after = w.1 }

pub returns : goal.returns
returns c =
    let a = c.args in
    let g = c.search.ensures in
    let f = c.search_of.ensures in
    let w = well_formed a.dog.now a.t a.layer a.octave a.s a.out.now c.in_ok-fault.ensures.value _ _ (record { answer = rw f at g.value; left = rw f at g.out_after }) in
    record { value = w.0; out_after = w.1 }
