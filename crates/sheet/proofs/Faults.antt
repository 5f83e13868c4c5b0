-- What no fault of the writer's says, for every layout, and what gives none. Assumes nothing.
use mathlib.Core.Path.{◌≡◌, refl, ap}
use mathlib.Core.Bool.{Bool, true, false, ◌&&◌, ◌||◌, not}
use mathlib.Core.List.{List, [], ◌∷◌}
use Prim.Native.Nat.{ℕ, ◌%◌, ◌^◌, ◌≤◌}
use native.Mathlib.Omega.{arith}
use borrow.Author.Tests.{ltb-false, le-ltb, eqb-true, eq-eqb, ne_eqb, not-false}
use lib.Dec.{ltb, eqb}
use lib.ListN.{length}
use Rattle.params.specs.Limits.{max_side, max_layers}
use Rattle.params.specs.Table.{line, first_fault, side_wrong, shape_wrong}
use Rattle.params.proofs.Bools.{or_neither, in_range}
use Rattle.sheet.specs.Layout.{Layout, Frame, layout_of, known, max_count}
use Rattle.sheet.specs.Sheet.{all_pass}
use Rattle.sheet.specs.Words.{taken_words}
use Rattle.sheet.specs.Writes.{count_in, records_of, sides_wrong, layers_wrong, records_layered, words_right, words_wrong, fault_in, layout_fault, write_fault}

-- no line of the writer's table is given
none_given : (a b c d : Bool) → first_fault (line 1 a ∷ line 2 b ∷ line 4 c ∷ line 5 d ∷ []) ≡ 0 → (a ≡ false) × (b ≡ false) × (c ≡ false) × (d ≡ false)
unfolding first_fault
none_given false false false false h = (refl, refl, refl, refl)
none_given true b c d h = absurd (omega arith)
none_given false true c d h = absurd (omega arith)
none_given false false true d h = absurd (omega arith)
none_given false false false true h = absurd (omega arith)

-- what the table says of a frame's shape
pub shape_fine : (w h : ℕ) → shape_wrong w h ≡ false → (1 ≤ w) × (1 ≤ h)
unfolding shape_wrong
shape_fine w h e =
    let a = or_neither (side_wrong w) (side_wrong h) e in
    ((in_range w max_side a.0).0, (in_range h max_side a.1).0)

-- the writer's fault, from its tests
module _ (asked : Bool) (l : Layout) (f : Frame) (ws : List ℕ) where
  pub fault_sides : sides_wrong l f ≡ true → fault_in asked l f ws ≡ 1
  unfolding fault_in first_fault
  fault_sides a = rw a

  pub fault_layers : sides_wrong l f ≡ false → (layers_wrong f || (asked && not (records_layered l f ws))) ≡ true → fault_in asked l f ws ≡ 2
  unfolding fault_in first_fault
  fault_layers a b = rw (a, b)

pub fault_edition : (l : Layout) (f : Frame) (ws : List ℕ) → sides_wrong l f ≡ false → layers_wrong f ≡ false → fault_in false l f ws ≡ 4
unfolding fault_in first_fault
fault_edition l f ws a b = rw (a, b)

module _ (l : Layout) (f : Frame) (ws : List ℕ) where
  pub fault_words : sides_wrong l f ≡ false → (layers_wrong f || not (records_layered l f ws)) ≡ false → words_wrong l f ws ≡ true → layout_fault l f ws ≡ 5
  unfolding fault_in first_fault
  fault_words a b d = rw (a, b, d)

  pub no_fault : sides_wrong l f ≡ false → (layers_wrong f || not (records_layered l f ws)) ≡ false → words_wrong l f ws ≡ false → layout_fault l f ws ≡ 0
  unfolding fault_in first_fault
  no_fault a b d = rw (a, b, d)

-- no fault: the layout was asked for, and so an edition's number is known
pub fault_asked : (asked : Bool) (l : Layout) (f : Frame) (ws : List ℕ) → fault_in asked l f ws ≡ 0 → asked ≡ true
unfolding fault_in
fault_asked asked l f ws h = not-false _ (none_given _ _ _ _ h).2

pub edition_known : (edition : ℕ) (f : Frame) (ws : List ℕ) → write_fault edition f ws ≡ 0 → known edition ≡ true
edition_known edition f ws h = fault_asked (known edition) (layout_of edition) f ws h

-- and of a known one it is that of its layout
pub known_fault : (edition : ℕ) (f : Frame) (ws : List ℕ) → known edition ≡ true → write_fault edition f ws ≡ layout_fault (layout_of edition) f ws
known_fault edition f ws e = ap (λ (b : Bool). fault_in b (layout_of edition) f ws) e

module _ (l : Layout) (f : Frame) (ws : List ℕ) where
  pub record Sound : Type 0 where
    pub width_low : 1 ≤ f.width
    pub width_high : f.width ≤ 2 ^ l.side
    pub height_low : 1 ≤ f.height
    pub height_high : f.height ≤ 2 ^ l.side
    pub layers_low : 1 ≤ f.layers
    pub layers_high : f.layers ≤ max_layers
    pub whole : length ws % taken_words l ≡ 0
    pub count : count_in l ws ≤ max_count
    pub records : all_pass (words_right l f) (records_of l ws) ≡ true

  pub sound_of : layout_fault l f ws ≡ 0 → Sound
  unfolding fault_in sides_wrong words_wrong
  sound_of h =
      let k = none_given (sides_wrong l f) (layers_wrong f || not (records_layered l f ws)) false (words_wrong l f ws) h in
      let s = or_neither (shape_wrong f.width f.height) (ltb (2 ^ l.side) f.width || ltb (2 ^ l.side) f.height) k.0 in
      let a = shape_fine f.width f.height s.0 in
      let t = or_neither (ltb (2 ^ l.side) f.width) (ltb (2 ^ l.side) f.height) s.1 in
      let b = or_neither (layers_wrong f) (not (records_layered l f ws)) k.1 in
      let y = in_range f.layers max_layers b.0 in
      let c = or_neither (not (eqb (length ws % taken_words l) 0)) (ltb max_count (count_in l ws) || not (all_pass (words_right l f) (records_of l ws))) k.3 in
      let d = or_neither (ltb max_count (count_in l ws)) (not (all_pass (words_right l f) (records_of l ws))) c.1 in
      record {
        width_low = a.0;
        width_high = ltb-false _ _ t.0;
        height_low = a.1;
        height_high = ltb-false _ _ t.1;
        layers_low = y.0;
        layers_high = y.1;
        whole = eqb-true _ _ (not-false _ c.0);
        count = ltb-false _ _ d.0;
        records = not-false _ d.1;
      }

  -- and the other way round, where the layout's sides are within the limit
  pub fault_none : Sound → f.width ≤ max_side → f.height ≤ max_side → records_layered l f ws ≡ true → layout_fault l f ws ≡ 0
  unfolding fault_in first_fault sides_wrong shape_wrong words_wrong
  fault_none s w h p =
      rw (
        ne_eqb f.width 0 (λ z. omega (arith, s.width_low)),
        le-ltb max_side f.width w,
        ne_eqb f.height 0 (λ z. omega (arith, s.height_low)),
        le-ltb max_side f.height h,
        le-ltb (2 ^ l.side) f.width s.width_high,
        le-ltb (2 ^ l.side) f.height s.height_high,
        ne_eqb f.layers 0 (λ z. omega (arith, s.layers_low)),
        le-ltb max_layers f.layers s.layers_high,
        p,
        eq-eqb (length ws % taken_words l) 0 s.whole,
        le-ltb max_count (count_in l ws) s.count,
        s.records,
      )
