use Prim.Native.Nat.{◌*◌, ◌/◌, ◌≤◌}
use mathlib.Core.Path.{◌≡◌, sym, ◌∙◌}
use native.Mathlib.Omega.{arith}
use lib.ListN.{length}
use Rattle.params.specs.Limits.{keypoint_words}
use Rattle.detect_extrema.specs.Neighbours.{tied}
use Rattle.detect_extrema.specs.Scan.{keypoints}
use Rattle.detect_words.proofs.Words.{length_words}
use Rattle.detect_room.proofs.Room.{gave, bad, good}
use Rattle.detect_hold.proofs.Few.{few_cells}
use Rattle.detect_hold.proofs.Parts.{all_left}
use Rattle.detect_room.proofs.search.Goals as goal

pub returns-then-not-all_good : goal.returns-then-not-all_good
returns-then-not-all_good c =
    let a = c.args in
    let g = bad a.dog.now (keypoints tied a.dog.now a.t a.s) _ (sym c.all_good.ensures ∙ c.if-not-all_good.true) in
    record { value = g.answer; out_after = g.left }

pub returns-then-t-out : goal.returns-then-t-out
returns-then-t-out c =
    let a = c.args in
    let ks = keypoints tied a.dog.now a.t a.s in
    let n = rw (all_left a.dog.now a.t a.s) at c.rest_words.ensures.value in
    let w = rw (all_left a.dog.now a.t a.s) at c.rest_words.ensures.out_after in
    let k : c.rest_words.result / keypoint_words ≡ length ks = omega (arith, length_words ks, n) in
    let f : keypoint_words * (c.rest_words.result / keypoint_words) ≤ length a.out.now = omega (arith, k, few_cells a.dog.now a.t a.s, c.if-t-out.true) in
    let g = good a.dog.now ks _ (sym c.all_good.ensures ∙ c.if-not-all_good.false) _ _ (gave ks _ _ _ k f w) in
    record { value = g.answer; out_after = g.left }

pub returns-in_default : goal.returns-in_default
returns-in_default c =
    let a = c.args in
    let g = bad a.dog.now (keypoints tied a.dog.now a.t a.s) a.out.now c.in_default.ensures.bad in
    record { value = g.answer; out_after = g.left }

pub returns : goal.returns
returns c =
    let a = c.args in
    let l = c.land.ensures in
    let g = good a.dog.now (keypoints tied a.dog.now a.t a.s) a.out.now c.in-Ok.ensures.good _ _ (record { answer = l.value; left = l.out_after }) in
    record { value = g.answer; out_after = g.left }
