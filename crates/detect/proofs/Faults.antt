-- The first check that fails, and what is known where none does. Assumes nothing.
use Prim.Native.Nat.{ℕ, suc, ◌+◌, ◌*◌, ◌≤◌}
use mathlib.Core.Path.{◌≡◌, refl, sym}
use mathlib.Core.Bool.{Bool, true, false, ◌&&◌, not}
use mathlib.Core.List.{List, [], ◌∷◌}
use native.Mathlib.Nat.{mul-le-mul}
use native.Mathlib.Omega.{arith}
use borrow.Author.Tests.{eqb-true, ltb-false, leb-true}
use lib.Dec.{eqb, leb, ltb}
use lib.ListN.{length}
use lib.Ieee.{Float}
use Rattle.lists.proofs.Bools.{and_both}
use Rattle.params.specs.Limits.{max_side, max_layers, max_planes}
use Rattle.params.specs.Table.{Line, line, first_fault, side_wrong, shape_wrong, layers_wrong, length_wrong, contrast_wrong, settings_wrong, all_good}
use Rattle.params.specs.declared.Settings.{Settings}
use Rattle.params.proofs.Bools.{or_neither, in_range}
use Rattle.params.proofs.Accepted.{accepted}
use Rattle.params.specs.Answers.{on_fault}
use Rattle.detect.specs.Entry.{fault_of}
use Rattle.detect_room.specs.Room.{sample_fault}
use Rattle.detect.specs.Form.{form_fault}
use Rattle.picture.specs.declared.Shape.{Shape}
use Rattle.detect_refine.specs.Place.{Searched}
use Rattle.detect_keypoint.specs.Search.{search_of}

pub not_is : (a : Bool) → not a ≡ false → a ≡ true
not_is true e = refl
not_is false e = sym e

pub shape_right : (w h : ℕ) → shape_wrong w h ≡ false → (w ≤ max_side) × (h ≤ max_side)
unfolding shape_wrong
shape_right w h e =
    let a = or_neither (side_wrong w) (side_wrong h) e in
    ((in_range w max_side a.0).1, (in_range h max_side a.1).1)

pub record Layers (planes layer layers : ℕ) : Type 0 where
  pub first : 1 ≤ layer
  pub last : layer ≤ layers
  pub room : layers + 2 ≤ planes
  pub few : layers ≤ max_layers
  pub most : planes ≤ max_planes

pub layers_right : (planes layer layers : ℕ) → layers_wrong planes layer layers ≡ false → Layers planes layer layers
unfolding layers_wrong
layers_right planes layer layers e =
    let a = or_neither (not (leb 1 layer && (leb layer layers && leb (layers + 2) planes))) _ e in
    let b = or_neither (ltb max_layers layers) _ a.1 in
    let q = and_both (leb 1 layer) _ (not_is _ a.0) in
    let g = and_both (leb layer layers) _ q.1 in
    record {
      first = leb-true 1 layer q.0;
      last = leb-true layer layers g.0;
      room = leb-true (layers + 2) planes g.1;
      few = ltb-false max_layers layers b.0;
      most = ltb-false max_planes planes b.1;
    }

-- the length that the shape gives does not wrap
pub products : (n h w : ℕ) → n ≤ max_planes → h ≤ max_side → w ≤ max_side → (n * h ≤ max_planes * max_side) × (n * h * w ≤ max_planes * max_side * max_side)
products n h w a b c =
    let p : n * h ≤ max_planes * max_side = mul-le-mul {n₁ = n} {m₁ = h} {n₂ = max_planes} {m₂ = max_side} a b in
    (p, mul-le-mul {n₁ = n * h} {m₁ = w} {n₂ = max_planes * max_side} {m₂ = max_side} p c)

module _ (len : ℕ) (t : Shape) (layer octave : ℕ) (s : Settings) (shape : shape_wrong t.width t.height ≡ false) (layers : layers_wrong t.planes layer s.layers ≡ false) where
  pub fits : (t.planes * t.height ≤ max_planes * max_side) × (t.planes * t.height * t.width ≤ max_planes * max_side * max_side)
  fits = let a = shape_right t.width t.height shape in products t.planes t.height t.width (layers_right t.planes layer s.layers layers).most a.1 a.0

  module _ (whole : len ≡ t.planes * t.height * t.width) (settings : settings_wrong s octave ≡ false) where
    pub searched : Searched len t (search_of layer octave s)
    searched =
        let a = shape_right t.width t.height shape in
        let b = layers_right t.planes layer s.layers layers in
        record { whole = whole; wide = a.0; high = a.1; planes = b.room; many = b.few; low = (accepted s octave settings).octave; first = b.first; last = omega arith }

    pub contrast_right : contrast_wrong s.contrast ≡ false
    unfolding settings_wrong
    contrast_right = (or_neither (contrast_wrong s.contrast) _ settings).0

-- ---- the checks of the form come before that of the samples
in_turn_lem : (a b c e g : Bool) → let f = first_fault (line 1 a ∷ line 2 b ∷ line 3 c ∷ line 4 e ∷ []) in
    first_fault (line 1 a ∷ line 2 b ∷ line 3 c ∷ line 4 e ∷ line 6 g ∷ []) ≡ on_fault f (first_fault (line 6 g ∷ [])) f
unfolding first_fault
in_turn_lem true b c e g = refl
in_turn_lem false true c e g = refl
in_turn_lem false false true e g = refl
in_turn_lem false false false true g = refl
in_turn_lem false false false false g = refl

low_lem : (a b c e : Bool) → first_fault (line 1 a ∷ line 2 b ∷ line 3 c ∷ line 4 e ∷ []) ≤ 4
unfolding first_fault
low_lem true b c e = omega arith
low_lem false true c e = omega arith
low_lem false false true e = omega arith
low_lem false false false true = omega arith
low_lem false false false false = omega arith

pub form_low : (len : ℕ) (t : Shape) (layer octave : ℕ) (s : Settings) → form_fault len t layer octave s ≤ 4
unfolding form_fault
form_low len t layer octave s = low_lem _ _ _ _

pub fault_in_turn : (d : List Float) (t : Shape) (layer octave : ℕ) (s : Settings) → let f = form_fault (length d) t layer octave s in fault_of d t layer octave s ≡ on_fault f (sample_fault d) f
unfolding fault_of form_fault sample_fault
fault_in_turn d t layer octave s = in_turn_lem _ _ _ _ _

-- ---- what is known of a stack that no check refuses

pub first_none : (n : ℕ) (b : Bool) (ls : List Line) → first_fault (line (suc n) b ∷ ls) ≡ 0 → (b ≡ false) × (first_fault ls ≡ 0)
unfolding first_fault
first_none n true ls h = absurd (omega arith)
first_none n false ls h = (refl, h)

pub record Right (d : List Float) (t : Shape) (layer octave : ℕ) (s : Settings) : Type 0 where
  pub searched : Searched (length d) t (search_of layer octave s)
  pub settings : settings_wrong s octave ≡ false
  pub contrast : contrast_wrong s.contrast ≡ false
  pub good : all_good d ≡ true

pub right : (d : List Float) (t : Shape) (layer octave : ℕ) (s : Settings) → fault_of d t layer octave s ≡ 0 → Right d t layer octave s
unfolding fault_of length_wrong
right d t layer octave s z =
    let a = first_none 0 (shape_wrong t.width t.height) _ z in
    let b = first_none 1 (layers_wrong t.planes layer s.layers) _ a.1 in
    let c = first_none 2 (not (eqb (length d) (t.planes * t.height * t.width))) _ b.1 in
    let e = first_none 3 (settings_wrong s octave) _ c.1 in
    let g = first_none 5 (not (all_good d)) _ e.1 in
    let whole : length d ≡ t.planes * t.height * t.width = eqb-true (length d) (t.planes * t.height * t.width) (not_is _ c.0) in
    record {
      searched = searched (length d) t layer octave s a.0 b.0 whole e.0;
      settings = e.0;
      contrast = contrast_right (length d) t layer octave s a.0 b.0 whole e.0;
      good = not_is _ g.0;
    }
