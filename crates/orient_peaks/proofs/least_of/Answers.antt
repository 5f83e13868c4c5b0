use Rattle.std.proofs.Common.{◌≡◌, suc, ◌+◌, ◌-◌, ◌<◌, ap, ◌∙◌, take, drop, get_or, refl, arith, add-one, length-take, length-drop, Float}
use Rattle.std.specs.Float.{nan}
use Rattle.std.proofs.lemmas.Grind.{get_or_after_one}
use Rattle.std.proofs.lemmas.List.{get_or-take}
use Rattle.orient_tally.specs.Sample.{bins}
use Rattle.orient_peaks.specs.Peaks.{largest_to, least_of}
use Rattle.orient_peaks.proofs.least_of.Goals as goal

pub loop-v-init : goal.loop-v-init
unfolding largest_to
loop-v-init c = refl

pub loop-v-preserved : goal.loop-v-preserved
unfolding largest_to
loop-v-preserved c =
    let h = c.args.h.now in
    let i = c.loop-v.v-index in
    let s : 1 + i ≡ suc i = omega arith in
    let l : i < 35 = omega (arith, length-take {A = Float}) in
    let e : get_or (take 35 (drop 1 h)) i nan ≡ get_or h (suc i) nan = get_or-take 35 (drop 1 h) i nan l ∙ get_or_after_one h i nan ∙ ap (λ k. get_or h k nan) s in
    rw (add-one, c.greater-top.ensures, c.loop-v.invariant, e) refl

pub returns : goal.returns
unfolding least_of
returns c =
    let z : c.loop-v.v-index ≡ bins - 1 = omega (arith, length-take {A = Float}, length-drop {A = Float}) in
    rw (c.loop-v.invariant, z) refl
