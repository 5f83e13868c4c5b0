use Prim.Native.Nat.{◌*◌, ◌≤◌}
use mathlib.Core.Path.{◌∙◌}
use native.Mathlib.Omega.{arith}
use lib.ListN.{length-take}
use Rattle.params.specs.Limits.{border, max_side}
use Rattle.detect_rows.proofs.Forms.{rows_left, held_cells}
use Rattle.detect_hold.proofs.Parts.{parts_written, held_count, held_again, held_few, all_counted}
use Rattle.detect_hold.proofs.write.Goals as goal
use Rattle.detect_hold.proofs.write.Goals.{Start}

-- so few that no sum of places wraps
few : (c : Start) → c.args.f.count ≤ max_side * max_side
few c = held_few c.args.dog.now c.args.t c.args.s _ c.requires.searched _ _ _ c.requires.holds

pub refined_words-requires-clause-few : goal.refined_words-requires-clause-few
refined_words-requires-clause-few c =
    omega (arith, length-take c.args.f.count c.args.hold.now, few (goal.at.refined_words-requires-clause-few c).Start)

pub refined_words-requires-clause-cells : goal.refined_words-requires-clause-cells
refined_words-requires-clause-cells c =
    let a = c.args in
    let h = c.requires.holds in
    rw h.cells (held_cells a.dog.now a.t a.s _ c.requires.searched border a.f.row (omega arith) h.below)

pub overflow_mul-p : goal.overflow_mul-p
overflow_mul-p c = omega (arith, few (goal.at.overflow_mul-p c).Start)

pub rest_words-requires-clause-from_bound : goal.rest_words-requires-clause-from_bound
rest_words-requires-clause-from_bound c = omega (arith, few (goal.at.rest_words-requires-clause-from_bound c).Start)

pub returns-clause-value : goal.returns-clause-value
returns-clause-value c =
    let a = c.args in
    all_counted a.dog.now a.t a.s _ c.requires.searched _ _ _ c.requires.holds _ c.rest_words.ensures.value

pub returns-clause-out_after : goal.returns-clause-out_after
returns-clause-out_after c =
    let a = c.args in
    let h = c.requires.holds in
    parts_written a.dog.now a.t a.s a.f.row h.above h.below _ _ _ _ (held_count a.dog.now a.t a.s _ c.requires.searched _ _ _ h) (c.refined_words.ensures ∙ rw (held_again a.dog.now a.t a.s _ c.requires.searched _ _ _ h)) (rw (rows_left a.dog.now a.t a.s) at c.rest_words.ensures.out_after)
