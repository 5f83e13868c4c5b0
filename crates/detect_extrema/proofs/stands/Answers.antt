use Prim.Native.Nat.{◌+◌, ◌-◌, ◌<◌}
use mathlib.Core.Path.{◌≡◌, sym, ap, ◌∙◌}
use native.Mathlib.Omega.{arith}
use Rattle.lists.proofs.Every.{every_more, every_stop}
use Rattle.picture.specs.Stack.{sample}
use Rattle.detect_extrema.specs.Neighbours.{tied, keeps_over, is_extremum}
use lib.ListN.{length}
use lib.Ieee.{Float}
use Rattle.ieee.specs.F32.{◌<ᶠ◌}
use Rattle.ieee.specs.Numbers.{nought}
use Rattle.detect_extrema.proofs.Near.{along, near_below, near_sample}
use Rattle.detect_extrema.proofs.Cells.{pass_centre, pass_kept, pass_none, kept_as}
use Rattle.detect_extrema.proofs.stands.Goals as goal
use Rattle.detect_extrema.proofs.stands.Goals.{In-loop-k, After-keeps}

-- the neighbour that is read lies in the list
reach : (c : In-loop-k) →
    let a = c.args in
    along a.t.width a.t.height (a.p - 1) (a.r - 1) (a.c - 1) c.nb.i c.loop-j.j c.loop-k.k < length a.dog.now
reach c = near_below c.requires.around _ _ _ c.nb-test.true c.loop-j-test.true c.loop-k-test.true

pub loop-k-preserved-then-is_centre : goal.loop-k-preserved-then-is_centre
loop-k-preserved-then-is_centre c =
    let l = c.loop-k in
    let e = sym c.is_centre.ensures ∙ c.if-is_centre.true in
    (l.invariant.0, every_more _ _ l.invariant.1 (pass_centre _ _ _ _ _ _ _ _ e))

pub overflow_mul-other : goal.overflow_mul-other
overflow_mul-other c = omega (arith, reach (goal.at.overflow_mul-other c).In-loop-k)

pub overflow_add-other : goal.overflow_add-other
overflow_add-other c = omega (arith, reach (goal.at.overflow_add-other c).In-loop-k)

pub overflow_add-other-in-loop-k : goal.overflow_add-other-in-loop-k
overflow_add-other-in-loop-k c = omega (arith, reach (goal.at.overflow_add-other-in-loop-k c).In-loop-k)

pub overflow_add-other-in-loop-k-2 : goal.overflow_add-other-in-loop-k-2
overflow_add-other-in-loop-k-2 c = omega (arith, reach (goal.at.overflow_add-other-in-loop-k-2 c).In-loop-k)

pub offset_bounds-dog-first : goal.offset_bounds-dog-first
offset_bounds-dog-first c = omega (arith, reach (goal.at.offset_bounds-dog-first c).In-loop-k, c.well_formed)

pub bounds-dog-first : goal.bounds-dog-first
bounds-dog-first c = reach (goal.at.bounds-dog-first c).In-loop-k

-- what the code found of the neighbour is what the definition compares
compared : (c : After-keeps) →
    let a = c.args in
    keeps_over tied (sample a.dog.now a.t a.p a.r a.c)
    (sample a.dog.now a.t (a.p + c.nb.i - 1) (a.r + c.loop-j.j - 1) (a.c + c.loop-k.k - 1)) ≡ c.keeps.result
compared c =
    let q = c.requires in
    let v = c.at-val.ensures in
    kept_as _ _ _ _ _ _ c.keeps.ensures
    (near_sample _ _ _ _ _ _ _ _ q.around c.nb-test.true c.loop-j-test.true c.loop-k-test.true)
    v (q.up_value ∙ ap (λ (x : Float). nought <ᶠ x) (sym v))

pub loop-k-preserved : goal.loop-k-preserved
loop-k-preserved c =
    let l = c.loop-k in
    (l.invariant.0, every_more _ _ l.invariant.1 (pass_kept _ _ _ _ _ _ _ _ (compared (goal.at.loop-k-preserved c).After-keeps ∙ c.if-not-keeps.false)))

pub loop-j-preserved : goal.loop-j-preserved
loop-j-preserved c =
    let l = c.loop-j in
    let e : c.loop-k.k ≡ 3 = omega arith in
    (c.loop-k.invariant.0, every_more _ _ l.invariant.1 (rw e at c.loop-k.invariant.1))

pub nb-preserved : goal.nb-preserved
nb-preserved c =
    let l = c.nb in
    let e : c.loop-j.j ≡ 3 = omega arith in
    (c.loop-j.invariant.0, every_more _ _ l.invariant.1 (rw e at c.loop-j.invariant.1))

pub returns-then-not-keeps : goal.returns-then-not-keeps
unfolding is_extremum
returns-then-not-keeps c =
    sym
    (every_stop 3 _ _ c.nb-test.true
    (every_stop 3 _ _ c.loop-j-test.true
    (every_stop 3 _ _ c.loop-k-test.true
    (pass_none _ _ _ _ _ _ _ _ (sym c.is_centre.ensures ∙ c.if-is_centre.false) (compared (goal.at.returns-then-not-keeps c).After-keeps ∙ c.if-not-keeps.true)))))
