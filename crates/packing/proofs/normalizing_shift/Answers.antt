use mathlib.Core.Path.{◌≡◌, subst}
use Prim.Native.Nat.{ℕ, suc, ◌+◌, ◌-◌, ◌*◌, ◌^◌, ◌≤◌, ◌<◌}
use native.Mathlib.Nat.{le_trans, le_of_eq, lt_of_lt_of_le, lt_irrefl, mul-le-mul_right}
use native.Mathlib.Omega.{arith}
use mathlib.Core.Logic.{inl, inr}
use lib.Count.{count_leading_zeros, leading_top}
use lib.Dec.{lit≤}
use lib.Pow.{pow-add, pow_mono, shl_lt}
use Rattle.lists.proofs.Naturals.{le_or_lt}
use Rattle.packing.specs.Parts.{Normalized}
use Rattle.packing.proofs.normalizing_shift.Goals as goal

below : (j m : ℕ) → 2 ^ j ≤ m → m < 2 ^ 48 → j < 48
below j m a b = elim (le_or_lt 48 j) [ inl h ↦ absurd (lt_irrefl m (lt_of_lt_of_le b (le_trans (pow_mono h) a))) | inr h ↦ h ]

module _ (m : ℕ) (p : 0 < m) (h : m < 2 ^ 48) where
  highest : (j : ℕ) × (count_leading_zeros 64 m + suc j ≡ 64) × (2 ^ j ≤ m) × (m < 2 ^ suc j)
  highest = leading_top 64 m p (lt_of_lt_of_le h (lit≤ tt))

  enough : 16 ≤ count_leading_zeros 64 m
  enough = let t = highest in omega (arith, t.1, below t.0 m t.2 h)

  normalized : Normalized m (count_leading_zeros 64 m - 2)
  normalized =
      let t = highest in
      let z = count_leading_zeros 64 m - 2 in
      let e : t.0 + (count_leading_zeros 64 m - 2) ≡ 61 = omega (arith, t.1, enough) in
      let e' : suc t.0 + (count_leading_zeros 64 m - 2) ≡ 62 = omega (arith, t.1, enough) in
      record {
        low = subst (λ (x : ℕ). 2 ^ x ≤ m * 2 ^ (count_leading_zeros 64 m - 2)) e (le_trans (le_of_eq (pow-add 2 t.0 (count_leading_zeros 64 m - 2))) (mul-le-mul_right (2 ^ (count_leading_zeros 64 m - 2)) t.2));
        high = subst (λ (x : ℕ). m * 2 ^ (count_leading_zeros 64 m - 2) < 2 ^ x) e' (shl_lt (suc t.0) (count_leading_zeros 64 m - 2) t.3);
        zeros = omega (arith, enough);
        most = omega (arith, t.1);
      }

pub overflow_sub-result : goal.overflow_sub-result
overflow_sub-result c = omega (arith, enough c.args.m c.requires.0 c.requires.1)

pub returns : goal.returns
returns c = normalized c.args.m c.requires.0 c.requires.1
