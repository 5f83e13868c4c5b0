-- A region's quarters lie in it, and no keypoint lies in two of them. Assumes nothing.
use Prim.Native.Nat.{ℕ, ◌%◌, ◌≤◌, ◌<◌}
use mathlib.Core.Path.{◌≡◌, sym, ◌∙◌}
use mathlib.Core.Bool.{Bool, true, false, cond}
use mathlib.Core.List.{List}
use mathlib.Core.Logic.{⊎_elim}
use native.Mathlib.Nat.{le_refl, le_trans}
use native.Mathlib.Omega.{arith}
use borrow.Author.Tests.{ltb-true, ltb-false, eqb-true, eqb-false}
use lib.Ieee.{Float, binary32}
use Rattle.lists.proofs.Bools.{and_left, and_right, both_and}
use Rattle.ieee.specs.F32.{float, ◌<ᶠ◌, ◌≤ᶠ◌}
use Rattle.ieee_laws.proofs.Order.{le_trans_float, lt_le_trans, lt_not_le}
use Rattle.ieee_laws.proofs.Monotone.{of_int_le}
use Rattle.counts.proofs.Counts.{either}
use Rattle.thin_rule.specs.Rule.{x_of, y_of, between, inside, middle, is_left, is_upper, quarter}
use Rattle.thin_rule.specs.Strength.{Ordered}
use Rattle.thin_rule.specs.declared.Region.{Region}

-- ---- a span of a side and its halves: the first up to the middle, the second from it on

abbrev from : Bool → ℕ → ℕ → ℕ
from first a b = cond first a (middle a b)

abbrev to : Bool → ℕ → ℕ → ℕ
to first a b = cond first (middle a b) b

half_order : (first : Bool) (a b : ℕ) → a ≤ b → from first a b ≤ to first a b
half_order true a b h = omega arith
half_order false a b h = omega arith

half_low : (first : Bool) (a b : ℕ) → a ≤ from first a b
half_low true a b = le_refl a
half_low false a b = omega arith

half_high : (first : Bool) (a b : ℕ) → a ≤ b → to first a b ≤ b
half_high true a b h = omega arith
half_high false a b h = le_refl b

half_within : (first : Bool) (a b : ℕ) (x : Float) → a ≤ b → between (from first a b) (to first a b) x ≡ true → between a b x ≡ true
half_within first a b x l h =
    both_and (float a ≤ᶠ x) (x <ᶠ float b)
    (le_trans_float (float a) (float (from first a b)) x (of_int_le binary32 a (from first a b) (half_low first a b)) (and_left (float (from first a b) ≤ᶠ x) (x <ᶠ float (to first a b)) h))
    (lt_le_trans x (float (to first a b)) (float b) (and_right (float (from first a b) ≤ᶠ x) (x <ᶠ float (to first a b)) h) (of_int_le binary32 (to first a b) b (half_high first a b l)))

-- which half it is shows in the comparison with the middle
half_side : (first : Bool) (a b : ℕ) (x : Float) → between (from first a b) (to first a b) x ≡ true → (x <ᶠ float (middle a b)) ≡ first
half_side true a b x h = and_right (float a ≤ᶠ x) (x <ᶠ float (middle a b)) h
half_side false a b x h =
    ⊎_elim
    (λ e. absurd (lt_not_le x (float (middle a b)) e (and_left (float (middle a b) ≤ᶠ x) (x <ᶠ float b) h)))
    (λ e. e)
    (either (x <ᶠ float (middle a b)))

-- ---- quarters

pub quarter_ordered : (r : Region) (k : ℕ) → Ordered r → Ordered (quarter r k)
unfolding quarter
quarter_ordered r k o =
    record {
      across = half_order (is_left k) r.left r.right o.across;
      right = le_trans (half_high (is_left k) r.left r.right o.across) o.right;
      down = half_order (is_upper k) r.top r.bottom o.down;
      bottom = le_trans (half_high (is_upper k) r.top r.bottom o.down) o.bottom;
    }

module _ (ws : List ℕ) (r : Region) (k i : ℕ) (h : inside ws (quarter r k) i ≡ true) where
  across : between (from (is_left k) r.left r.right) (to (is_left k) r.left r.right) (x_of ws i) ≡ true
  unfolding inside quarter
  across = and_left (between (from (is_left k) r.left r.right) (to (is_left k) r.left r.right) (x_of ws i)) (between (from (is_upper k) r.top r.bottom) (to (is_upper k) r.top r.bottom) (y_of ws i)) h

  down : between (from (is_upper k) r.top r.bottom) (to (is_upper k) r.top r.bottom) (y_of ws i) ≡ true
  unfolding inside quarter
  down = and_right (between (from (is_left k) r.left r.right) (to (is_left k) r.left r.right) (x_of ws i)) (between (from (is_upper k) r.top r.bottom) (to (is_upper k) r.top r.bottom) (y_of ws i)) h

  pub quarter_inside : Ordered r → inside ws r i ≡ true
  unfolding inside
  quarter_inside o =
      both_and (between r.left r.right (x_of ws i)) (between r.top r.bottom (y_of ws i))
      (half_within (is_left k) r.left r.right (x_of ws i) o.across across) (half_within (is_upper k) r.top r.bottom (y_of ws i) o.down down)

  pub quarter_column : (x_of ws i <ᶠ float (middle r.left r.right)) ≡ is_left k
  quarter_column = half_side (is_left k) r.left r.right (x_of ws i) across

  pub quarter_row : (y_of ws i <ᶠ float (middle r.top r.bottom)) ≡ is_upper k
  quarter_row = half_side (is_upper k) r.top r.bottom (y_of ws i) down

same_column : (j k : ℕ) → is_left j ≡ is_left k → j % 2 ≡ k % 2
same_column j k e =
    ⊎_elim
    (λ t. let a = eqb-true (j % 2) 0 t in let b = eqb-true (k % 2) 0 (sym e ∙ t) in omega arith)
    (λ t. let a = eqb-false (j % 2) 0 t in let b = eqb-false (k % 2) 0 (sym e ∙ t) in odd (j % 2) (k % 2) (omega arith) (omega arith) a b)
    (either (is_left j))
  where
    odd : (x y : ℕ) → x < 2 → y < 2 → (x ≡ 0 → ⊥) → (y ≡ 0 → ⊥) → x ≡ y
    odd x y a b c d = omega arith

same_row : (j k : ℕ) → j < 4 → k < 4 → j % 2 ≡ k % 2 → is_upper j ≡ is_upper k → j ≡ k
same_row j k p q m e =
    ⊎_elim
    (λ t. let a = ltb-true j 2 t in let b = ltb-true k 2 (sym e ∙ t) in omega arith)
    (λ t. let a = ltb-false j 2 t in let b = ltb-false k 2 (sym e ∙ t) in omega arith)
    (either (is_upper j))

pub quarters_apart : (ws : List ℕ) (r : Region) (j k i : ℕ) → j < 4 → k < 4 → inside ws (quarter r j) i ≡ true → inside ws (quarter r k) i ≡ true → j ≡ k
quarters_apart ws r j k i p q a b =
    same_row j k p q (same_column j k (sym (quarter_column ws r j i a) ∙ quarter_column ws r k i b)) (sym (quarter_row ws r j i a) ∙ quarter_row ws r k i b)
