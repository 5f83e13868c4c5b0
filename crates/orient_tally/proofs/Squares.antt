-- The square of a distance, worked out with signs. Assumes nothing.
use Prim.Native.Nat.{ℕ, suc, ◌+◌, ◌-◌, ◌*◌, ◌^◌, ◌<◌, ◌≤◌}
use mathlib.Core.Path.{◌≡◌, ◌∙◌}
use mathlib.Core.Logic.{⊎_elim}
use native.Mathlib.Nat.{mul-le-mul}
use native.Mathlib.Omega.{arith}
use lib.Dec.{T, le→leb}
use lib.IntN.{ℤ, pos, ◌+ℤ◌, ◌-ℤ◌, ◌*ℤ◌, pos-+ℤ-pos, pos-*ℤ-pos, negsuc-*ℤ-negsuc}
use lib.Ieee.{binary32, in_float}
use mir.Syntax.{w32}
use mir.Val.{SFits, to_z, of_z}
use mir.ValLaws.{to_z_pos, to_z-of_z}
use Rattle.lists.proofs.Naturals.{le_or_lt}
use Rattle.params.specs.Limits.{max_side}
use Rattle.picture.proofs.Apart.{diff_up, diff_down, mag_diff}
use Rattle.orient_window.specs.Place.{max_reach}
use Rattle.orient_tally.specs.Sample.{apart}

square_small : {i : ℕ} → i ≤ max_reach → i * i ≤ max_reach * max_reach
square_small {i} h = mul-le-mul {n₁ = i} {m₁ = i} {n₂ = max_reach} {m₂ = max_reach} h h

square_is : (a b : ℕ) → (pos a -ℤ pos b) *ℤ (pos a -ℤ pos b) ≡ pos (apart a b * apart a b)
square_is a b =
    ⊎_elim
    (λ l. let z : apart a b ≡ a - b = omega arith in rw (diff_up a b l, z) (pos-*ℤ-pos (a - b) (a - b)))
    (λ l. let z : apart a b ≡ suc (b - suc a) = omega arith in rw (diff_down a b l, z) (negsuc-*ℤ-negsuc (b - suc a) (b - suc a)))
    (le_or_lt b a)

module _ (a b : ℕ) (h : a ≤ max_side) (l : apart a b ≤ max_reach) where
  diff_fits : SFits w32 (pos a -ℤ pos b)
  diff_fits = record { sfits = mag_diff a b (2 ^ 31) (omega arith) (omega arith) }

  -- what the code computes with
  code_diff : to_z w32 a -ℤ to_z w32 b ≡ pos a -ℤ pos b
  code_diff = rw (to_z_pos w32 a (omega arith), to_z_pos w32 b (omega arith))

  pub sub_fits : SFits w32 (to_z w32 a -ℤ to_z w32 b)
  sub_fits = rw code_diff diff_fits

  square_fits : SFits w32 (pos (apart a b * apart a b))
  square_fits = record { sfits = omega (arith, square_small {i = apart a b} l) }

  abbrev code_d : ℤ
  code_d = to_z w32 (of_z w32 (to_z w32 a -ℤ to_z w32 b))

  code_square : code_d *ℤ code_d ≡ pos (apart a b * apart a b)
  code_square = rw (to_z-of_z w32 (to_z w32 a -ℤ to_z w32 b) sub_fits, code_diff) (square_is a b)

  pub mul_fits : SFits w32 (code_d *ℤ code_d)
  mul_fits = rw code_square square_fits

  pub squared : to_z w32 (of_z w32 (code_d *ℤ code_d)) ≡ pos (apart a b * apart a b)
  squared = to_z-of_z w32 (code_d *ℤ code_d) mul_fits ∙ code_square

-- the sum of two squares
module _ (i j : ℕ) (h : i ≤ max_reach) (l : j ≤ max_reach) (p q : ℤ) (P : p ≡ pos (i * i)) (Q : q ≡ pos (j * j)) where
  abbrev code_sum : ℤ
  code_sum = to_z w32 (of_z w32 p) +ℤ to_z w32 (of_z w32 q)

  sum_small : i * i + j * j < 2 ^ 24
  sum_small = omega (arith, square_small {i = i} h, square_small {i = j} l)

  sum_is : code_sum ≡ pos (i * i + j * j)
  sum_is = rw (P, Q, to_z_pos w32 (i * i) (omega (arith, sum_small)), to_z_pos w32 (j * j) (omega (arith, sum_small))) (pos-+ℤ-pos (i * i) (j * j))

  pub sum_fits : SFits w32 code_sum
  sum_fits = rw sum_is (record { sfits = omega (arith, sum_small) })

  pub summed : to_z w32 (of_z w32 code_sum) ≡ pos (i * i + j * j)
  summed = to_z-of_z w32 code_sum sum_fits ∙ sum_is

  pub sum_held : T (in_float binary32 (to_z w32 (of_z w32 code_sum)))
  unfolding in_float
  sum_held = rw summed (le→leb (i * i + j * j) (2 ^ 24) (omega (arith, sum_small)))
