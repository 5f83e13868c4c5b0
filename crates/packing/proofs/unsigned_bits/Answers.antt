use mathlib.Core.Path.{◌≡◌, sym, ap, ◌∙◌, subst}
use Prim.Native.Nat.{ℕ, suc, ◌+◌, ◌-◌, ◌*◌, ◌%◌, ◌^◌, ◌≤◌, ◌<◌}
use native.Mathlib.Nat.{mod-eq_of_lt, le_refl}
use native.Mathlib.Omega.{arith}
use mathlib.Core.Bool.{Bool, cond}
use lib.Count.{count_leading_zeros, leading_top, leading_le}
use lib.Ieee.{binary32, round, of_bits, top}
use lib.Ieee.Nearest.{closest}
use Rattle.packing.proofs.Cases.{normal_lt, kept_le, low_le, normal_case, large_case, low_case, tiny_case, zero_case}
use Rattle.packing.proofs.unsigned_bits.Goals as goal

-- m is not 0, so it has a highest digit
topmost : (m : ℕ) → (m ≡ 0 → ⊥) → m < 2 ^ 64 → (j : ℕ) × (count_leading_zeros 64 m + suc j ≡ 64) × (2 ^ j ≤ m) × (m < 2 ^ suc j)
topmost m n h = leading_top 64 m (omega arith) h

abbrev Holds : ℕ → ℕ → ℕ → Type 0
Holds m x r = (s : Bool) → of_bits binary32 (cond s (top binary32) 0 + r) ≡ round binary32 s (m * 2 ^ x) (2 ^ 1074)

module _ (m x : ℕ) (n : m ≡ 0 → ⊥) (h : m < 2 ^ 64) where
  shifted : m * 2 ^ count_leading_zeros 64 m % 2 ^ 64 ≡ m * 2 ^ count_leading_zeros 64 m
  shifted = let t = topmost m n h in mod-eq_of_lt (normal_lt m (count_leading_zeros 64 m) t.0 t.3 t.1)

  large : 949 ≤ x + (64 - count_leading_zeros 64 m) → 254 ≤ x + (64 - count_leading_zeros 64 m) - 949 → Holds m x 2139095040
  large a b s =
      let t = topmost m n h in
      let k = x + (64 - count_leading_zeros 64 m) - 949 in
      large_case m x (count_leading_zeros 64 m) t.0 t.2 t.3 t.1 s k (omega (arith, t.1)) b

  normal : (r : ℕ) → 949 ≤ x + (64 - count_leading_zeros 64 m) → x + (64 - count_leading_zeros 64 m) - 949 < 254 → r ≡ closest (m * 2 ^ count_leading_zeros 64 m % 2 ^ 64) (2 ^ 40)
      → Holds m x ((x + (64 - count_leading_zeros 64 m) - 949) * 8388608 + r)
  normal r a b e s =
      let t = topmost m n h in
      let k = x + (64 - count_leading_zeros 64 m) - 949 in
      ap (λ (y : ℕ). of_bits binary32 (cond s (top binary32) 0 + (k * 8388608 + y))) (e ∙ ap (λ (y : ℕ). closest y (2 ^ 40)) shifted)
      ∙ normal_case m x (count_leading_zeros 64 m) t.0 t.2 t.3 t.1 s k (omega (arith, t.1)) b

  low : (r : ℕ) → x + (64 - count_leading_zeros 64 m) < 949 → r ≡ closest (m * 2 ^ count_leading_zeros 64 m % 2 ^ 64) (2 ^ (40 + (949 - (x + (64 - count_leading_zeros 64 m))))) → Holds m x r
  low r a e s =
      let t = topmost m n h in
      let d = 949 - (x + (64 - count_leading_zeros 64 m)) in
      ap (λ (y : ℕ). of_bits binary32 (cond s (top binary32) 0 + y)) (e ∙ ap (λ (y : ℕ). closest y (2 ^ (40 + d))) shifted)
      ∙ low_case m x (count_leading_zeros 64 m) t.0 t.2 t.3 t.1 s d (omega (arith, t.1))

  tiny : x + (64 - count_leading_zeros 64 m) < 949 → 24 < 949 - (x + (64 - count_leading_zeros 64 m)) → Holds m x 0
  tiny a b s =
      let t = topmost m n h in
      tiny_case m x (count_leading_zeros 64 m) t.0 t.2 t.3 t.1 s (949 - (x + (64 - count_leading_zeros 64 m))) (omega (arith, t.1)) b

  normal_le : (r : ℕ) → r ≡ closest (m * 2 ^ count_leading_zeros 64 m % 2 ^ 64) (2 ^ 40) → r ≤ 2 ^ 24
  normal_le r e =
      let t = topmost m n h in
      subst (λ (y : ℕ). y ≤ 2 ^ 24) (sym (e ∙ ap (λ (y : ℕ). closest y (2 ^ 40)) shifted)) (kept_le (m * 2 ^ count_leading_zeros 64 m) (normal_lt m (count_leading_zeros 64 m) t.0 t.3 t.1))

  low_small : (r d : ℕ) → r ≡ closest (m * 2 ^ count_leading_zeros 64 m % 2 ^ 64) (2 ^ (40 + d)) → r ≤ 2 ^ 24
  low_small r d e =
      let t = topmost m n h in
      subst (λ (y : ℕ). y ≤ 2 ^ 24) (sym (e ∙ ap (λ (y : ℕ). closest y (2 ^ (40 + d))) shifted)) (low_le (m * 2 ^ count_leading_zeros 64 m) (40 + d) (normal_lt m (count_leading_zeros 64 m) t.0 t.3 t.1) (omega arith))

pub returns-then-m-eq0-clause-value : goal.returns-then-m-eq0-clause-value
returns-then-m-eq0-clause-value c = λ s. subst (λ (y : ℕ). of_bits binary32 (cond s (top binary32) 0 + 0) ≡ round binary32 s (y * 2 ^ c.args.x) (2 ^ 1074)) (sym c.if-m-eq0.true) (zero_case c.args.x s)

pub overflow_cast-n : goal.overflow_cast-n
overflow_cast-n c = omega (arith, leading_le 64 c.args.m)

pub overflow_shl-n : goal.overflow_shl-n
overflow_shl-n c = let t = topmost c.args.m c.if-m-eq0.false c.ranges.m.fits in omega (arith, t.1)

pub overflow_sub-e : goal.overflow_sub-e
overflow_sub-e c = leading_le 64 c.args.m

pub returns-then-k-ge254-clause-small : goal.returns-then-k-ge254-clause-small
returns-then-k-ge254-clause-small c = le_refl 2139095040

pub returns-then-k-ge254-clause-value : goal.returns-then-k-ge254-clause-value
returns-then-k-ge254-clause-value c = large c.args.m c.args.x c.if-m-eq0.false c.ranges.m.fits c.if-e-ge949.true c.if-k-ge254.true

pub overflow_cast-q : goal.overflow_cast-q
overflow_cast-q c = omega (arith, normal_le c.args.m c.args.x c.if-m-eq0.false c.ranges.m.fits c.half_even-q.result c.half_even-q.ensures)

pub overflow_add-result : goal.overflow_add-result
overflow_add-result c = omega (arith, normal_le c.args.m c.args.x c.if-m-eq0.false c.ranges.m.fits c.half_even-q.result c.half_even-q.ensures)

pub returns-then-d-gt24-clause-value : goal.returns-then-d-gt24-clause-value
returns-then-d-gt24-clause-value c = tiny c.args.m c.args.x c.if-m-eq0.false c.ranges.m.fits c.if-e-ge949.false (omega (arith, c.if-d-gt24.true))

pub overflow_cast-result : goal.overflow_cast-result
overflow_cast-result c = omega (arith, low_small c.args.m c.args.x c.if-m-eq0.false c.ranges.m.fits c.half_even.result (949 - (c.args.x + (64 - count_leading_zeros 64 c.args.m))) c.half_even.ensures)

pub returns-else-k-ge254-clause-small : goal.returns-else-k-ge254-clause-small
returns-else-k-ge254-clause-small c = omega (arith, normal_le c.args.m c.args.x c.if-m-eq0.false c.ranges.m.fits c.half_even-q.result c.half_even-q.ensures)

pub returns-else-k-ge254-clause-value : goal.returns-else-k-ge254-clause-value
returns-else-k-ge254-clause-value c = normal c.args.m c.args.x c.if-m-eq0.false c.ranges.m.fits c.half_even-q.result c.if-e-ge949.true c.if-k-ge254.false c.half_even-q.ensures

pub returns-else-d-gt24-clause-small : goal.returns-else-d-gt24-clause-small
returns-else-d-gt24-clause-small c = omega (arith, low_small c.args.m c.args.x c.if-m-eq0.false c.ranges.m.fits c.half_even.result (949 - (c.args.x + (64 - count_leading_zeros 64 c.args.m))) c.half_even.ensures)

pub returns-else-d-gt24-clause-value : goal.returns-else-d-gt24-clause-value
returns-else-d-gt24-clause-value c = low c.args.m c.args.x c.if-m-eq0.false c.ranges.m.fits c.half_even.result c.if-e-ge949.false c.half_even.ensures
