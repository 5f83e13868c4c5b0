use Prim.Native.Nat.{ℕ, ◌+◌}
use mathlib.Core.List.{List}
use mathlib.Core.Path.{◌≡◌, refl, ◌∙◌}
use native.Mathlib.Omega.{arith}
use Rattle.std.specs.Prelude.{Ok, Err}
use Rattle.detect_keypoint.specs.declared.RawKeypoint.{RawKeypoint}
use Rattle.detect.specs.Entry.{list_of}
use Rattle.audit_compare.specs.Standing.{start, standing_of, standing_in}
use Rattle.audit_compare.proofs.Bare.{bare_good, told_in}
use Rattle.audit_keypoint.proofs.Fault.{handed_on}
use Rattle.audit_keypoint.specs.Steps.{given_of}
use Rattle.audit_walk.proofs.Passed.{passed_none, passed_more, passed_refused, passed_bare}
use Rattle.audit_walk.proofs.Layers.{layer_searched, layer_passed}
use Rattle.audit_walk.proofs.walk.Goals as goal

pub loop-layer-init : goal.loop-layer-init
loop-layer-init c = (omega arith, omega arith, c.none_made-now.ensures ∙ passed_none _ _ _ 1 _ 1 (omega arith))

pub search_of-search-requires : goal.search_of-search-requires
search_of-search-requires c =
    let q = c.requires.searchable in
    (q.contrast, omega arith, q.many)

pub add_layer-requires-clause-searched : goal.add_layer-requires-clause-searched
add_layer-requires-clause-searched c =
    let l = c.loop-layer in
    rw c.search_of-search.ensures (layer_searched _ _ l.layer c.args.k.octave c.args.s c.requires.searchable (omega arith) (omega arith))

pub returns-in_err-now : goal.returns-in_err-now
returns-in_err-now c =
    let l = c.loop-layer in
    let a = c.args in
    let g = given_of a.body.now a.k in
    let f : ℕ → List RawKeypoint = λ j. list_of a.dog.now a.k.shape j a.k.octave a.s in
    let p = layer_passed a.gauss.now g a.dog.now a.k.shape l.layer a.k.octave a.s _ (standing_of l.now) _ c.search_of-search.ensures c.in_err-now.ensures in
    let x = c.in_err-now.field-0.0 in
    let v =
    handed_on c.from_residual.result x c.from_residual.ensures.1
    ∙ passed_refused a.gauss.now g start 1 f (standing_in (Err x)) refl (l.layer + 1) (a.s.layers + 1) (omega arith) (omega arith) (passed_more a.gauss.now g start 1 f l.layer (standing_of l.now) _ l.invariant.0 l.invariant.2 p)
    in
    record { value = v; told = told_in c.from_residual.result _ (passed_bare a.gauss.now g start _ (bare_good start refl)) v }

pub loop-layer-preserved : goal.loop-layer-preserved
loop-layer-preserved c =
    let l = c.loop-layer in
    let a = c.args in
    let g = given_of a.body.now a.k in
    let p = layer_passed a.gauss.now g a.dog.now a.k.shape l.layer a.k.octave a.s _ (standing_of l.now) _ c.search_of-search.ensures c.in_ok-now.ensures in
    (omega arith, omega arith, passed_more a.gauss.now g start 1 (λ j. list_of a.dog.now a.k.shape j a.k.octave a.s) l.layer (standing_of l.now) _ l.invariant.0 l.invariant.2 p)

pub returns : goal.returns
returns c =
    let l = c.loop-layer in
    let a = c.args in
    let e : l.layer ≡ a.s.layers + 1 = omega arith in
    let v = rw e at l.invariant.2 in
    record { value = v; told = told_in (Ok l.now) _ (passed_bare a.gauss.now (given_of a.body.now a.k) start _ (bare_good start refl)) v }
