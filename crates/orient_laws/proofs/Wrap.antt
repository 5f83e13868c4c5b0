-- From the top of a parabola to an angle: brought back into the circle, turned into degrees, and kept below a whole turn. Assumes nothing.
use borrow.Author.Tests.{le-ltb}
use Prim.Native.Nat.{ℕ, ◌+◌, ◌-◌, ◌*◌, ◌^◌, ◌<◌, ◌≤◌}
use mathlib.Core.Path.{◌≡◌, refl, sym, ◌∙◌}
use mathlib.Core.Bool.{Bool, true, false, not, ◌&&◌, cond, beq, false≢true, true≢false}
use mathlib.Core.Logic.{⊎_elim}
use native.Mathlib.Nat.{mul_comm}
use native.Mathlib.Omega.{arith}
use lib.Dec.{T, ltb}
use lib.IntN.{ℤ, pos}
use lib.Ieee.{Float, nan, inf, fin, Format, binary32, up, down, unlike, round, sum, neg, add, sub, le, lt, is_nan, of_bits, of_int, fits}
use lib.Ieee.Scale.{finite}
use Rattle.ieee.specs.Fused.{fma}
use Rattle.ieee.specs.F32.{◌⊕◌, ◌⊖◌, fused, abs_of}
use Rattle.ieee.specs.Numbers.{nought, ten, whole_turn, epsilon}
use Rattle.ieee_laws.proofs.Order.{lt_le, le_number, le_or_lt_float, le_lt_trans, neg_le, Marked, ended, round_marked, le_fin}
use Rattle.ieee_laws.proofs.Monotone.{nil, neg_finite, fma_le_left}
use Rattle.ieee_laws.proofs.Bounds.{Bounds, bounds_finite, bounds_wider, bounds_point, add_bounds, sub_bounds, of_int_bounds}
use Rattle.ieee.proofs.Held.{fma_fits}
use Rattle.orient_tally.specs.Sample.{bins}
use Rattle.orient_peaks.specs.Peaks.{circle, crest_of, wrapped, closed, degrees_of}
use Rattle.orient_laws.proofs.Offset.{low, high, offset_of}

-- ---- the top, in bins
abbrev least : Float
least = fin true 1 (pos 5)

abbrev most : Float
most = fin false 67 (pos 0)

pub crest_in : (j : ℕ) (l m r : Float) → j < bins → Bounds low high (offset_of l m r) → Bounds least most (crest_of j l m r)
unfolding crest_of of_int add le
crest_in j l m r h b =
    bounds_wider least most refl refl refl refl (add_bounds binary32 refl refl (of_int_bounds binary32 0 35 j refl refl (omega arith) (omega arith)) b)

-- ---- brought back
finite_number : (x : Float) → finite x ≡ true → T (not (is_nan x))
finite_number x f = (le_number x x (bounds_point x f).low).0

not_lt : (x y : Float) → T (not (is_nan x)) → T (not (is_nan y)) → lt x y ≡ false → le y x ≡ true
not_lt x y p q h = ⊎_elim (λ l. l) (λ l. absurd (true≢false (sym l ∙ h))) (le_or_lt_float y x q p)

not_le : (x y : Float) → T (not (is_nan x)) → T (not (is_nan y)) → le x y ≡ false → lt y x ≡ true
not_le x y p q h = ⊎_elim (λ l. absurd (true≢false (sym l ∙ h))) (λ l. l) (le_or_lt_float x y p q)

wrap_number : (T (not (is_nan nought))) × (T (not (is_nan circle)))
unfolding of_bits is_nan
wrap_number = (tt, tt)

module _ (b : Float) (u : Bounds least most b) where
  below_in : lt b nought ≡ true → Bounds nil circle (circle ⊕ b)
  unfolding of_bits add le
  below_in h =
      let v : Bounds least nought b = record { from = refl; to = refl; low = u.low; high = lt_le b nought h } in
      bounds_wider nil circle refl refl refl refl (add_bounds binary32 refl refl (bounds_point circle refl) v)

  above_in : le circle b ≡ true → Bounds nil circle (b ⊖ circle)
  unfolding of_bits sub le
  above_in h =
      let v : Bounds circle most b = record { from = refl; to = refl; low = h; high = u.high } in
      bounds_wider nil circle refl refl refl refl (sub_bounds binary32 refl refl v (bounds_point circle refl))

  between_in : lt b nought ≡ false → le circle b ≡ false → Bounds nil circle b
  unfolding of_bits
  between_in h k =
      let n = finite_number b (bounds_finite u) in
      record { from = refl; to = refl; low = not_lt b nought n wrap_number.0 h; high = lt_le b circle (not_le circle b wrap_number.1 n k) }

  pub wrapped_in : Bounds nil circle (wrapped b)
  unfolding wrapped
  wrapped_in = go (lt b nought) (le circle b) refl refl
    where
      go : (p q : Bool) → lt b nought ≡ p → le circle b ≡ q → Bounds nil circle (cond p (circle ⊕ b) (cond q (b ⊖ circle) b))
      go true q e f = below_in e
      go false true e f = above_in f
      go false false e f = between_in e f

-- ---- in degrees
unlike_not : (s t : Bool) → unlike (not s) t ≡ unlike (not t) s
unlike_not true true = refl
unlike_not true false = refl
unlike_not false true = refl
unlike_not false false = refl

fma_opposite : (f : Format) (x y z : Float) → finite x ≡ true → finite y ≡ true → finite z ≡ true → fma f (neg x) y z ≡ fma f (neg y) x z
unfolding fma neg
fma_opposite f (fin s m e) (fin t n d) (fin u o g) p q r = rw (unlike_not s t, mul_comm (m * up e) (n * up d), mul_comm (down e) (down d))
fma_opposite f nan y z p q r = absurd (false≢true p)
fma_opposite f (inf s) y z p q r = absurd (false≢true p)
fma_opposite f (fin s m e) nan z p q r = absurd (false≢true q)
fma_opposite f (fin s m e) (inf t) z p q r = absurd (false≢true q)
fma_opposite f (fin s m e) (fin t n d) nan p q r = absurd (false≢true r)
fma_opposite f (fin s m e) (fin t n d) (inf u) p q r = absurd (false≢true r)

-- no more is taken away than there is: the sum's sign is clear
sum_is : (f : Format) (s : Bool) (a b c : ℕ) → sum f s a false b c ≡ cond (beq s false) (round f s (a + b) c) (cond (ltb a b) (round f false (b - a) c) (round f (s && ltb b a) (a - b) c))
unfolding sum
sum_is f s a b c = refl

sum_clear : (f : Format) (s : Bool) (a b c : ℕ) → a ≤ b → Marked false (sum f s a false b c)
sum_clear f s a b c h = rw sum_is (go s (ltb a b) (ltb b a) (le-ltb b a h))
  where
    go : (s p q : Bool) → q ≡ false → Marked false (cond (beq s false) (round f s (a + b) c) (cond p (round f false (b - a) c) (round f (s && q) (a - b) c)))
    go false p q e = round_marked f false (a + b) c
    go true true q e = round_marked f false (b - a) c
    go true false q e = rw e (round_marked f false (a - b) c)

clear_at : (t : Bool) (n : ℕ) (d : ℤ) → n * up d ≤ bins * down d → Marked false (fma binary32 (fin true 5 (pos 1)) (fin t n d) (fin false 45 (pos 3)))
unfolding fma
clear_at t n d h = sum_clear binary32 (unlike true t) (5 * 2 ^ 1 * (n * up d) * 1) (45 * 2 ^ 3 * (1 * down d)) (1 * down d * 1) (omega arith)

up_to : (t : Bool) (n : ℕ) (d : ℤ) → le nil (fin t n d) ≡ true → le (fin t n d) (fin false 9 (pos 2)) ≡ true → n * up d ≤ bins * down d
up_to false n d a b = let c = (le_fin false n d false 9 (pos 2) b).cross in omega arith
up_to true n d a b = let c = (le_fin false 0 (pos 0) true n d a).cross in omega arith

clear_of : (b : Float) → le nil b ≡ true → le b (fin false 9 (pos 2)) ≡ true → Marked false (fma binary32 (fin true 5 (pos 1)) b (fin false 45 (pos 3)))
unfolding le
clear_of nan a b = absurd (false≢true a)
clear_of (inf true) a b = absurd (false≢true a)
clear_of (inf false) a b = absurd (false≢true b)
clear_of (fin t n d) a b = clear_at t n d (up_to t n d a b)

abbrev rough : Float → Float
rough b = fused (neg ten) b whole_turn

-- 10 times at most 36 is at most 360
module _ (b : Float) (u : Bounds nil circle b) where
  rough_is : rough b ≡ fma binary32 (neg b) ten whole_turn
  unfolding of_bits
  rough_is = fma_opposite binary32 ten b whole_turn refl (bounds_finite u) refl

  rough_in : Bounds nil whole_turn (rough b)
  unfolding of_bits neg fma le
  rough_in =
      let n = neg_finite b (bounds_finite u) in
      record {
        from = refl;
        to = refl;
        low = rw rough_is (fma_le_left binary32 (neg circle) (neg b) ten whole_turn refl n refl refl (neg_le b circle u.high) refl);
        high = rw rough_is (fma_le_left binary32 (neg b) (neg nil) ten whole_turn n refl refl refl (neg_le nil b u.low) refl);
      }

  rough_clear : Marked false (rough b)
  unfolding of_bits neg
  rough_clear = clear_of b u.low u.high

-- ---- below a whole turn
tiny : (x : Float) → le nil x ≡ true → le x nil ≡ true → lt (abs_of x) epsilon ≡ true
unfolding abs_of le lt of_bits neg
tiny nan a b = absurd (false≢true a)
tiny (inf true) a b = absurd (false≢true a)
tiny (inf false) a b = absurd (false≢true b)
tiny (fin false m e) a b = le_lt_trans (fin false m e) nil epsilon b refl
tiny (fin true m e) a b = le_lt_trans (fin false m e) (neg nil) epsilon (neg_le nil (fin true m e) a) refl

-- an angle as the sheet wants it
pub record Angle (a : Float) : Type 0 where
  pub clear : Marked false a
  pub below : lt a whole_turn ≡ true
  pub held : T (fits binary32 a)

module _ (a : Float) (clear : Marked false a) (u : Bounds nil whole_turn a) (held : T (fits binary32 a)) where
  full : le whole_turn a ≡ true → lt (abs_of (a ⊖ whole_turn)) epsilon ≡ true
  unfolding of_bits sub le
  full h =
      let v : Bounds whole_turn whole_turn a = record { from = refl; to = refl; low = h; high = u.high } in
      let z = sub_bounds binary32 refl refl v (bounds_point whole_turn refl) in
      tiny (a ⊖ whole_turn) z.low z.high

  turn_number : T (not (is_nan whole_turn))
  unfolding of_bits is_nan
  turn_number = tt

  zero_angle : Angle nought
  unfolding of_bits lt fits
  zero_angle = record { clear = ended; below = refl; held = tt }

  closed_in : Angle (closed a)
  unfolding closed
  closed_in = go (lt (abs_of (a ⊖ whole_turn)) epsilon) refl
    where
      go : (p : Bool) → lt (abs_of (a ⊖ whole_turn)) epsilon ≡ p → Angle (cond p nought a)
      go true e = zero_angle
      go false e = record { clear = clear; below = ⊎_elim (λ l. absurd (true≢false (sym (full l) ∙ e))) (λ l. l) (le_or_lt_float whole_turn a turn_number (finite_number a (bounds_finite u))); held = held }

pub degrees_in : (b : Float) → Bounds nil circle b → Angle (degrees_of b)
unfolding degrees_of
degrees_in b u = closed_in (rough b) (rough_clear b u) (rough_in b u) (fma_fits binary32 (neg ten) b whole_turn)
