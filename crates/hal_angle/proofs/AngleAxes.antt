-- Along the half axes the angle is exact, since |dy| - |dx| and |dy| + |dx| have the same size; and (0, 0) has the angle 0. Assumes nothing.
use mathlib.Core.Path.{◌≡◌, refl, sym, ap, ◌∙◌}
use mathlib.Core.Bool.{Bool, true, false}
use Prim.Native.Nat.{ℕ, ◌+◌, ◌*◌, ◌≤◌, ◌<◌}
use native.Mathlib.Nat.{zero-mul, mul-one, one-mul, mul-pos, mul_comm, mul_assoc}
use native.Mathlib.Omega.{arith}
use borrow.Author.Tests.{lt-ltb, ltb-true}
use lib.IntN.{ℤ}
use lib.Dec.{T, lit<}
use lib.Ieee.{Float, nan, inf, fin, binary32, up, down, lt, eq, neg, add, sub, mul, div, sum, round, of_bits, to_bits, fits}
use lib.Ieee.Fits.{down_pos}
use lib.Ieee.Positive.{num, den}
use lib.Ieee.Scale.{grid, round_same}
use Rattle.packing.proofs.Sums.{sum_comm, sum_zero_left}
use Rattle.ieee.specs.F32.{abs_of}
use Rattle.ieee.specs.Numbers.{nought, quarter_turn, half_turn, three_quarter_turn}
use Rattle.ieee.proofs.Meaning.{round_held}
use Rattle.ieee.proofs.Held.{abs_fits}
use Rattle.ieee.proofs.SignedParts.{round_zero}
use Rattle.hal_angle.specs.Turns.{turns}
use Rattle.hal_reach.specs.Reach.{in_reach, in_angle}
use Rattle.hal_angle.specs.Angle.{sum_of, ahead_of, quarter_of, line_of, along_of, direction_of, angle_of}
use Rattle.hal_reach.proofs.Reach.{bounded, reach_nan, reach_inf, reach_dx, reach_dy}
use Rattle.hal_angle.proofs.AngleValues.{side_left, side_right, none_of}
use Rattle.hal_angle.proofs.AngleLaws.{angle_level, angle_direction, by_sum}
use Rattle.hal_angle.proofs.AngleUnits.{rounded_above, rounded_over}

-- ---- a zero beside a value, on either side
none_times : (k z : ℕ) → k ≡ 0 → k * z ≡ 0
none_times k z e = ap (λ (i : ℕ). i * z) e ∙ zero-mul z

same_fraction : (t : Bool) (m : ℕ) (e d : ℤ) (c : ℕ) → 0 < c → c ≡ down e * down d → round binary32 t (m * up e * down d) c ≡ round binary32 t (m * up e) (down e)
same_fraction t m e d c C p =
    round_same binary32 t (m * up e * down d) c (m * up e) (down e) C (down_pos e) (regroup (m * up e) (down d) (down e) c p)
  where
    regroup : (a x y c : ℕ) → c ≡ y * x → a * x * y ≡ a * c
    regroup a x y c p = mul_assoc a x y ∙ ap (λ (z : ℕ). a * z) (mul_comm x y ∙ sym p)

after_none : (n : ℕ) (d : ℤ) (t : Bool) (m : ℕ) (e : ℤ) → n * up d ≡ 0 → 0 < m * up e → add binary32 (fin false n d) (fin t m e) ≡ round binary32 t (m * up e) (down e)
unfolding add
after_none n d t m e z p =
    ap (λ (k : ℕ). sum binary32 false k t (m * up e * down d) (down d * down e)) (none_times (n * up d) (down e) z)
    ∙ sum_zero_left binary32 false t (m * up e * down d) (down d * down e) (mul-pos p (down_pos d))
    ∙ same_fraction t m e d (down d * down e) (mul-pos (down_pos d) (down_pos e)) (mul_comm (down d) (down e))

before_none : (m : ℕ) (e : ℤ) (t : Bool) (n : ℕ) (d : ℤ) → n * up d ≡ 0 → 0 < m * up e → add binary32 (fin false m e) (fin t n d) ≡ round binary32 false (m * up e) (down e)
unfolding add
before_none m e t n d z p =
    ap (λ (k : ℕ). sum binary32 false (m * up e * down d) t k (down e * down d)) (none_times (n * up d) (down e) z)
    ∙ sum_comm binary32 false (m * up e * down d) t 0 (down e * down d)
    ∙ sum_zero_left binary32 t false (m * up e * down d) (down e * down d) (mul-pos p (down_pos d))
    ∙ same_fraction false m e d (down e * down d) (mul-pos (down_pos e) (down_pos d)) refl

-- ---- along an axis: ±a / c and a / c
record Axis (s : Bool) (a c : ℕ) (dx dy : Float) : Type 0 where
  pub over : 0 < c
  pub most : a ≤ 16777216 * c
  pub sum : sum_of dx dy ≡ round binary32 false a c
  pub difference : sub binary32 (abs_of dy) (abs_of dx) ≡ round binary32 s a c

wide : (a c : ℕ) → a ≤ 2097152 * c → a ≤ 16777216 * c
wide a c h = omega arith

flat : (dx dy : Float) → T (in_reach (abs_of dx)) → T (in_reach (abs_of dy)) → 0 < num dx → num dy ≡ 0 → Axis true (num dx) (den dx) dx dy
unfolding abs_of sub neg
flat nan dy h k p z = absurd (reach_nan h)
flat (inf s) dy h k p z = absurd (reach_inf s h)
flat (fin s m e) nan h k p z = absurd (reach_nan k)
flat (fin s m e) (inf t) h k p z = absurd (reach_inf t k)
flat (fin s m e) (fin t n d) h k p z = record {
  over = down_pos e;
  most = wide (m * up e) (down e) (bounded s m e h);
  sum = after_none n d false m e z p;
  difference = after_none n d true m e z p;
}

upright : (dx dy : Float) → T (in_reach (abs_of dx)) → T (in_reach (abs_of dy)) → num dx ≡ 0 → 0 < num dy → Axis false (num dy) (den dy) dx dy
unfolding abs_of sub neg
upright nan dy h k z p = absurd (reach_nan h)
upright (inf s) dy h k z p = absurd (reach_inf s h)
upright (fin s m e) nan h k z p = absurd (reach_nan k)
upright (fin s m e) (inf t) h k z p = absurd (reach_inf t k)
upright (fin s m e) (fin t n d) h k z p = record {
  over = down_pos d;
  most = wide (n * up d) (down d) (bounded t n d k);
  sum = before_none n d false m e z p;
  difference = before_none n d true m e z p;
}

-- the quotient is 1 or -1
axis_ahead : (s : Bool) (a c : ℕ) (dx dy : Float) → Axis s a c dx dy → lt nought (sum_of dx dy) ≡ true → ahead_of dx dy ≡ round binary32 s 1 1
unfolding ahead_of
axis_ahead s a c dx dy x e =
    let g = grid binary32 a c in
    let p : 0 < g = ltb-true 0 g (sym (rounded_above a c x.over x.most) ∙ ap (lt nought) (sym x.sum) ∙ e) in
    ap (λ (z : Float). div binary32 z (sum_of dx dy)) x.difference
    ∙ ap (div binary32 (round binary32 s a c)) x.sum
    ∙ rounded_over s a a c x.over x.most x.most p
    ∙ round_same binary32 s g g 1 1 p (lit< tt) (mul-one g ∙ sym (one-mul g))

-- a value of binary32 is its own rounding
axis_above : (s : Bool) (dx dy x : Float) → T (fits binary32 x) → T (in_reach (abs_of x)) → 0 < num x → Axis s (num x) (den x) dx dy → lt nought (sum_of dx dy) ≡ true
axis_above s dx dy nan f h p a = absurd (reach_nan h)
axis_above s dx dy (inf t) f h p a = absurd (reach_inf t h)
axis_above s dx dy (fin t m e) f h p a = ap (lt nought) (a.sum ∙ round_held binary32 false m e (unfold abs_of in abs_fits binary32 (fin t m e) f)) ∙ above m e p
  where
    above : (m : ℕ) (e : ℤ) → 0 < m * up e → lt nought (fin false m e) ≡ true
    above m e p = unfold lt of_bits in lt-ltb (0 * 1 * down e) (m * up e * 1) (omega arith)

-- ---- the four ends, computed
turn_east : direction_of (quarter_of false false) (round binary32 true 1 1) ≡ nought
unfolding direction_of along_of line_of turns lt add sub sum mul neg round to_bits of_bits
turn_east = refl

turn_west : direction_of (quarter_of true false) (round binary32 true 1 1) ≡ half_turn
unfolding direction_of along_of line_of turns lt add sub sum mul neg round to_bits of_bits
turn_west = refl

turn_north : direction_of (quarter_of false false) (round binary32 false 1 1) ≡ quarter_turn
unfolding direction_of along_of line_of turns lt add sub sum mul neg round to_bits of_bits
turn_north = refl

turn_south : direction_of (quarter_of false true) (round binary32 false 1 1) ≡ three_quarter_turn
unfolding direction_of along_of line_of turns lt add sub sum mul neg round to_bits of_bits
turn_south = refl

module _ (dx dy : Float) (h : T (in_angle dx dy)) where
  along : (s left down : Bool) (a c : ℕ) → lt dx nought ≡ left → lt dy nought ≡ down → Axis s a c dx dy → lt nought (sum_of dx dy) ≡ true → direction_of (quarter_of (lt dx nought) (lt dy nought)) (ahead_of dx dy) ≡ direction_of (quarter_of left down) (round binary32 s 1 1)
  along s left down a c p q x e =
      ap (direction_of (quarter_of (lt dx nought) (lt dy nought))) (axis_ahead s a c dx dy x e)
      ∙ ap (λ (b : Bool). direction_of (quarter_of b (lt dy nought)) (round binary32 s 1 1)) p ∙ ap (λ (b : Bool). direction_of (quarter_of left b) (round binary32 s 1 1)) q

  pub angle_east : T (lt nought dx) → T (eq dy nought) → angle_of dx dy ≡ nought
  angle_east t u =
      let x = side_right dx (reach_dx dx dy h) t in
      let y = none_of dy (reach_dy dx dy h) u in
      by_sum (λ (z : Float). z ≡ nought) dx dy h (λ e. refl)
      (λ e. along true false false (num dx) (den dx) x.sign y.sign (flat dx dy (reach_dx dx dy h) (reach_dy dx dy h) x.some y.none) e ∙ turn_east)

  pub angle_none : T (eq dx nought) → T (eq dy nought) → angle_of dx dy ≡ nought
  angle_none t u = angle_level dx dy h (sum_none dx dy (reach_dx dx dy h) (reach_dy dx dy h) (none_of dx (reach_dx dx dy h) t).none (none_of dy (reach_dy dx dy h) u).none)
    where
      nothing : (a c : ℕ) → 0 < c → a ≡ 0 → lt nought (round binary32 false a c) ≡ false
      nothing a c C z = ap (lt nought) (round_zero binary32 false a c C z) ∙ (unfold lt of_bits in refl)

      sum_none : (dx dy : Float) → T (in_reach (abs_of dx)) → T (in_reach (abs_of dy)) → num dx ≡ 0 → num dy ≡ 0 → lt nought (sum_of dx dy) ≡ false
      sum_none nan dy h k p q = absurd (reach_nan h)
      sum_none (inf s) dy h k p q = absurd (reach_inf s h)
      sum_none (fin s m e) nan h k p q = absurd (reach_nan k)
      sum_none (fin s m e) (inf t) h k p q = absurd (reach_inf t k)
      sum_none (fin s m e) (fin t n d) h k p q = unfold abs_of add sum in
          nothing (n * up d * down e + m * up e * down d) (down d * down e) (mul-pos (down_pos d) (down_pos e)) (none_sum (n * up d * down e) (m * up e * down d) (none_times (n * up d) (down e) q) (none_times (m * up e) (down d) p))
        where
          none_sum : (a b : ℕ) → a ≡ 0 → b ≡ 0 → a + b ≡ 0
          none_sum a b p q = omega arith

  module _ (fx : T (fits binary32 dx)) (fy : T (fits binary32 dy)) where
    pub angle_west : T (lt dx nought) → T (eq dy nought) → angle_of dx dy ≡ half_turn
    angle_west t u =
        let x = side_left dx (reach_dx dx dy h) t in
        let y = none_of dy (reach_dy dx dy h) u in
        let a = flat dx dy (reach_dx dx dy h) (reach_dy dx dy h) x.some y.none in
        let e = axis_above true dx dy dx fx (reach_dx dx dy h) x.some a in
        angle_direction dx dy h e ∙ along true true false (num dx) (den dx) x.sign y.sign a e ∙ turn_west

    pub angle_north : T (eq dx nought) → T (lt nought dy) → angle_of dx dy ≡ quarter_turn
    angle_north t u =
        let x = none_of dx (reach_dx dx dy h) t in
        let y = side_right dy (reach_dy dx dy h) u in
        let a = upright dx dy (reach_dx dx dy h) (reach_dy dx dy h) x.none y.some in
        let e = axis_above false dx dy dy fy (reach_dy dx dy h) y.some a in
        angle_direction dx dy h e ∙ along false false false (num dy) (den dy) x.sign y.sign a e ∙ turn_north

    pub angle_south : T (eq dx nought) → T (lt dy nought) → angle_of dx dy ≡ three_quarter_turn
    angle_south t u =
        let x = none_of dx (reach_dx dx dy h) t in
        let y = side_left dy (reach_dy dx dy h) u in
        let a = upright dx dy (reach_dx dx dy h) (reach_dy dx dy h) x.none y.some in
        let e = axis_above false dx dy dy fy (reach_dy dx dy h) y.some a in
        angle_direction dx dy h e ∙ along false false true (num dy) (den dy) x.sign y.sign a e ∙ turn_south
