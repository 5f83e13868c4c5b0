use Prim.Native.Nat.{◌+◌, ◌-◌, ◌*◌, ◌≤◌}
use mathlib.Core.Path.{◌≡◌}
use native.Mathlib.Omega.{arith}
use lib.ListN.{length}
use Rattle.params.specs.Answers.{Done}
use Rattle.params.specs.Limits.{border, max_side, keypoint_words}
use Rattle.detect_extrema.specs.Neighbours.{tied}
use Rattle.detect_extrema.specs.Scan.{keypoints}
use Rattle.detect_room.proofs.Room.{Given, gave, lacked}
use Rattle.detect_hold.proofs.Few.{keypoints_few}
use Rattle.detect_hold.proofs.Parts.{hints_few, held_few, held_most, held_all}
use Rattle.detect_room.proofs.land.Goals as goal
use Rattle.detect_room.proofs.land.Goals.{After-rest_hints, After-rest_words, After-write, then-f-rest_hints+else-count-room, else-f-rest_hints}

-- so few are held and have a hint that no sum of places wraps
few : (c : After-rest_hints) → (c.args.f.count ≤ max_side * max_side) × (c.rest_hints.result ≤ max_side * max_side)
few c =
    let a = c.args in
    (held_few a.dog.now a.t a.s _ c.requires.searched _ _ _ c.requires.holds, omega (arith, hints_few a.dog.now a.t a.s a.f.row (a.t.height - border) (omega (arith, c.requires.searched.high)) c.requires.searched.wide, c.rest_hints.ensures))

-- the rest is counted by a search of it
counted : (c : After-rest_words) → let a = c.args in a.f.count + c.rest_words.result ≡ length (keypoints tied a.dog.now a.t a.s)
counted c =
    let a = c.args in
    held_all a.dog.now a.t a.s _ c.requires.searched _ _ _ c.requires.holds _ c.rest_words.ensures.value

-- all that is written fits, by the hints or by the count
written : (c : After-write) → let a = c.args in Given (keypoints tied a.dog.now a.t a.s) a.out.now (Done c.write.result) c.write.new.out
written c =
    let a = c.args in
    let q = c.requires in
    let w = c.write.ensures in
    let fits : keypoint_words * c.write.result ≤ length a.out.now =
    elim c.if-f-rest_hints.branch [
      | then-f-rest_hints+else-count-room v ↦ omega (arith, w.value, held_all a.dog.now a.t a.s _ q.searched _ _ _ q.holds _ v.rest_words.ensures.value, v.if-count-room.false)
      | else-f-rest_hints v ↦ omega (arith, w.value, held_most a.dog.now a.t a.s _ q.searched _ _ _ q.holds _ c.rest_hints.ensures, v.if-f-rest_hints.false)
    ] in
    gave (keypoints tied a.dog.now a.t a.s) _ _ _ w.value fits w.out_after

pub overflow_add-f : goal.overflow_add-f
overflow_add-f c = omega (arith, few (goal.at.overflow_add-f c).After-rest_hints)

pub overflow_mul-f : goal.overflow_mul-f
overflow_mul-f c = omega (arith, few (goal.at.overflow_mul-f c).After-rest_hints)

pub overflow_add-count : goal.overflow_add-count
overflow_add-count c =
    omega (arith, counted (goal.at.overflow_add-count c).After-rest_words, keypoints_few c.args.dog.now c.args.t c.args.s _ c.requires.searched)

pub overflow_mul-count : goal.overflow_mul-count
overflow_mul-count c =
    omega (arith, counted (goal.at.overflow_mul-count c).After-rest_words, keypoints_few c.args.dog.now c.args.t c.args.s _ c.requires.searched)

pub returns-then-count-room : goal.returns-then-count-room
returns-then-count-room c =
    let a = c.args in
    let g = lacked (keypoints tied a.dog.now a.t a.s) a.out.now _ (counted (goal.at.returns-then-count-room c).After-rest_words) (omega (arith, c.if-count-room.true)) in
    record { value = g.answer; out_after = g.left }

pub returns : goal.returns
returns c = let g = written (goal.at.returns c).After-write in record { value = g.answer; out_after = g.left }
