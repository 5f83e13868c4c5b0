-- What the tests of a list of keypoints leave known, and the first fault step by step. Assumes nothing.
use Prim.Native.Nat.{ℕ, zero, suc, ◌+◌, ◌%◌, ◌^◌, ◌≤◌, ◌<◌}
use mathlib.Core.Path.{◌≡◌, refl, sym, ap, ◌∙◌}
use mathlib.Core.Bool.{Bool, true, false, not, ◌&&◌, ◌||◌}
use mathlib.Core.List.{List, [], ◌∷◌, ◌++◌, map}
use native.Mathlib.Nat.{zero-add}
use native.Mathlib.Numerals.{add-one}
use native.Mathlib.Omega.{arith}
use borrow.Author.Tests.{ltb-false, eqb-false}
use lib.Dec.{ltb, eqb}
use lib.ListN.{length}
use lib.Ieee.{binary32, of_bits, of_int}
use lib.Ieee.Scale.{finite}
use Rattle.std.specs.List.{list_all, range_with_len}
use Rattle.std.proofs.lemmas.List.FromFn.{map-range_with_len_more}
use Rattle.std.proofs.lemmas.List.Folds.{list_all-map, list_all-append}
use Rattle.lists.specs.Ranges.{every}
use Rattle.lists.proofs.Bools.{and_left, and_right, and_true}
use Rattle.lists.proofs.Every.{every_all}
use Rattle.params.specs.Limits.{max_side, keypoint_words, max_keypoints, max_depth}
use Rattle.params.specs.Table.{first_fault, side_wrong, shape_wrong}
use Rattle.params.proofs.Bools.{or_neither, in_range}
use Rattle.ieee.specs.F32.{f32, float, ◌<ᶠ◌, ◌≤ᶠ◌}
use Rattle.ieee_laws.proofs.Order.{lt_le}
use Rattle.ieee_laws.proofs.Bounds.{bounds_finite}
use Rattle.thin_order.specs.Place.{Upward}
use Rattle.thin_rule.specs.Rule.{points_in, word_at, x_of, y_of, response_of, between, inside}
use Rattle.thin_rule.specs.Strength.{Ordered}
use Rattle.thin_laws.proofs.Edged.{edge_finite}
use Rattle.thin.specs.Entry.{frame, point_right, input_wrong, fault_of}
use Rattle.thin.specs.Frames.{sides_of, sided, Words, Accepted}
use Rattle.thin.specs.declared.Sides.{Sides}

-- ---- the keypoints

-- zero as it is written
pub zero_is : of_bits binary32 0 ≡ float 0
unfolding of_bits of_int
zero_is = refl

inside_sided : (ws : List ℕ) (w h i : ℕ) → sided ws (sides_of w h) i ≡ inside ws (frame w h) i
unfolding inside sided
inside_sided ws w h i = refl

pub frame_ordered : (w h : ℕ) → w ≤ max_side → h ≤ max_side → Ordered (frame w h)
frame_ordered w h a b = record { across = omega arith; right = a; down = omega arith; bottom = b }

module _ (ws : List ℕ) (w h : ℕ) where
  pub point_is : (i : ℕ) (e : Sides) (b : Bool) → e ≡ sides_of w h → b ≡ (sided ws e i && finite (response_of ws i)) → point_right ws w h i ≡ b
  unfolding point_right
  point_is i e b z x = sym (x ∙ rw (z, inside_sided ws w h i))

  -- those below n are right, by the list of the library that asks each
  pub points_are : (e : Sides) (n : ℕ) → e ≡ sides_of w h → list_all (λ i. sided ws e i && finite (response_of ws i)) (range_with_len 0 n) ≡ every n (point_right ws w h)
  unfolding every
  points_are e zero z = refl
  points_are e (suc n) z =
      let test : ℕ → Bool = λ i. sided ws e i && finite (response_of ws i) in
      let id : Bool → Bool = λ b. b in
      let m : map test (range_with_len 0 (suc n)) ≡ map test (range_with_len 0 n) ++ (test n ∷ []) = rw (add-one n) at (map-range_with_len_more test 0 n n (zero-add n)) in
      sym (list_all-map id test (range_with_len 0 (suc n))) ∙ ap (λ l. list_all id l) m ∙ list_all-append id (map test (range_with_len 0 n)) (test n ∷ [])
      ∙ rw (list_all-map id test (range_with_len 0 n), and_true, points_are e n z, point_is n e (test n) z refl)

  right_inside : (i : ℕ) → point_right ws w h i ≡ true → inside ws (frame w h) i ≡ true
  unfolding point_right
  right_inside i e = and_left (inside ws (frame w h) i) (finite (response_of ws i)) e

  right_finite : (i : ℕ) → point_right ws w h i ≡ true → finite (response_of ws i) ≡ true
  unfolding point_right
  right_finite i e = and_right (inside ws (frame w h) i) (finite (response_of ws i)) e

-- ---- a number that lies in a side is upward

side_upward : (v n : ℕ) → v < 2 ^ 32 → n ≤ max_side → between 0 n (f32 v) ≡ true → Upward v
side_upward v n w l e =
    let a = and_left (float 0 ≤ᶠ f32 v) (f32 v <ᶠ float n) e in
    let b = and_right (float 0 ≤ᶠ f32 v) (f32 v <ᶠ float n) e in
    record { word = w; number = bounds_finite (record { from = edge_finite 0 (omega arith); to = edge_finite n l; low = a; high = lt_le (f32 v) (float n) b }); above = a }

inside_x : (ws : List ℕ) (w h i : ℕ) → inside ws (frame w h) i ≡ true → between 0 w (x_of ws i) ≡ true
unfolding inside
inside_x ws w h i e = and_left (between 0 w (x_of ws i)) (between 0 h (y_of ws i)) e

inside_y : (ws : List ℕ) (w h i : ℕ) → inside ws (frame w h) i ≡ true → between 0 h (y_of ws i) ≡ true
unfolding inside
inside_y ws w h i e = and_right (between 0 w (x_of ws i)) (between 0 h (y_of ws i)) e

-- ---- the table

pub sides : (w h : ℕ) (b : Bool) → b ≡ shape_wrong w h → b ≡ false → (w ≤ max_side) × (h ≤ max_side)
unfolding shape_wrong
sides w h b e f =
    let p = or_neither (side_wrong w) (side_wrong h) (sym e ∙ f) in
    ((in_range w max_side p.0).1, (in_range h max_side p.1).1)

module _ (ws : List ℕ) (w h q d : ℕ) where
  -- what is wrong before the keypoints are looked at
  abbrev pub form_wrong : Bool
  form_wrong = (eqb q 0 || ltb max_depth d) || (not (eqb (length ws % keypoint_words) 0) || ltb max_keypoints (points_in ws))

  pub fault_shape : (b : Bool) → b ≡ shape_wrong w h → b ≡ true → 1 ≡ fault_of ws w h q d
  unfolding fault_of first_fault
  fault_shape b e t = rw (← e, t)

  module _ (b : Bool) (e : b ≡ shape_wrong w h) (f : b ≡ false) where
    pub fault_form : form_wrong ≡ true → 5 ≡ fault_of ws w h q d
    unfolding fault_of first_fault input_wrong
    fault_form t = rw (← e, f, t)

    module _ (t : form_wrong ≡ false) (p : Bool) (k : p ≡ every (points_in ws) (point_right ws w h)) where
      pub fault_points : p ≡ false → 5 ≡ fault_of ws w h q d
      unfolding fault_of first_fault input_wrong
      fault_points l = rw (← e, f, t, ← k, l)

      pub fault_none : p ≡ true → 0 ≡ fault_of ws w h q d
      unfolding fault_of first_fault input_wrong
      fault_none l = rw (← e, f, t, ← k, l)

      pub accepted : p ≡ true → ((i : ℕ) → i < points_in ws → Words ws i) → Accepted ws w h q
      accepted l m =
          let s = sides w h b e f in
          let x = or_neither (eqb q 0 || ltb max_depth d) (not (eqb (length ws % keypoint_words) 0) || ltb max_keypoints (points_in ws)) t in
          let y = or_neither (not (eqb (length ws % keypoint_words) 0)) (ltb max_keypoints (points_in ws)) x.1 in
          let a = every_all (points_in ws) (point_right ws w h) (sym k ∙ l) in
          record {
            ordered = frame_ordered w h s.0 s.1;
            sound =
                record {
                  few = ltb-false max_keypoints (points_in ws) y.1;
                  x = λ i z. side_upward (word_at ws i 0) w (m i z).x s.0 (inside_x ws w h i (right_inside ws w h i (a i z)));
                  y = λ i z. side_upward (word_at ws i 1) h (m i z).y s.1 (inside_y ws w h i (right_inside ws w h i (a i z)));
                  words = λ i z. (m i z).response;
                  numbers = λ i z. right_finite ws w h i (a i z);
                };
            some = some (eqb-false q 0 (or_neither (eqb q 0) (ltb max_depth d) x.0).0);
            inside = λ i z. right_inside ws w h i (a i z);
          }
        where
          some : (q ≡ 0 → ⊥) → 1 ≤ q
          some z = omega (arith, z)
