-- The whole numbers from -8 to 9 as floats, and what rounding at 2 ^ 23 makes of them: each computed. Assumes nothing.
use Prim.Native.Nat.{ℕ, zero, suc, ◌+◌, ◌-◌, ◌%◌, ◌≤◌}
use mathlib.Core.Path.{◌≡◌, refl, ap}
use mathlib.Core.Bool.{true, false}
use native.Mathlib.Omega.{arith}
use lib.IntN.{ℤ, pos, negsuc, ◌-ℤ◌}
use lib.Ieee.{of_bits, of_int, add, sub, to_bits, to_signed, to_unsigned, is_nan}
use lib.Ieee.Scale.{finite}
use Rattle.ieee.specs.F32.{◌⊕◌, ◌⊖◌, to_i32, float, float_z, bits_of}
use Rattle.ieee.specs.Numbers.{nought, one}
use Rattle.descriptor_shares.specs.Sharing.{slot_of, from_border}
use Rattle.descriptor_shares.specs.Reach.{base}

-- whole numbers are counted from -8
abbrev pub lowered : ℕ → ℤ
lowered k = pos k -ℤ pos 8

-- 12582912 - 8, and its bits
abbrev pub start : ℕ
start = 12582904

abbrev pub first : ℕ
first = 0x4b3f_fff8

-- an order of whole numbers that `omega` reads
abbrev pub raised : ℤ → ℕ
raised (pos n) = n + 16
raised (negsuc n) = 15 - n

at_pos : (j : ℕ) (z : ℤ) → raised z ≡ j + 16 → z ≡ pos j
at_pos j (pos n) e = ap pos (omega arith)
at_pos j (negsuc n) e = absurd (omega arith)

at_neg : (j : ℕ) → j ≤ 7 → (z : ℤ) → raised z ≡ 15 - j → z ≡ negsuc j
at_neg j h (pos n) e = absurd (omega arith)
at_neg j h (negsuc n) e = ap negsuc (omega arith)

-- what is computed of k
abbrev Computed : ℕ → Type 0
Computed k =
    (to_i32 (float_z (lowered k)) ≡ lowered k)
    × (raised (lowered k) ≡ k + 8)
    × (lowered (k + 1) -ℤ pos 1 ≡ lowered k)
    × (finite (float_z (lowered k)) ≡ true)
    × (float_z (lowered k) ⊕ base ≡ float (start + k))
    × (float (start + k) ⊖ base ≡ float_z (lowered k))
    × (to_unsigned 64 (float (start + k)) ≡ start + k)
    × (float (start + k) ⊖ nought ≡ float (start + k))
    × (float (start + (k + 1)) ⊖ one ≡ float (start + k))
    × (float_z (lowered k) ⊖ nought ≡ float_z (lowered k))
    × (float_z (lowered (k + 1)) ⊖ one ≡ float_z (lowered k))
    × (bits_of (float (start + k)) ≡ first + k)
    × (is_nan (float (start + k)) ≡ false)
    × (float_z (lowered k) ⊖ float_z (lowered k) ≡ nought)
    × (float_z (lowered (k + 1)) ⊖ float_z (lowered k) ≡ one)
    × (slot_of (lowered k) ≡ k % 8)
    × (from_border (lowered k) ≡ k - 7)

pub record Step (k : ℕ) : Type 0 where
  pub cut : to_i32 (float_z (lowered k)) ≡ lowered k
  pub height : raised (lowered k) ≡ k + 8
  pub less : lowered (k + 1) -ℤ pos 1 ≡ lowered k
  pub ended : finite (float_z (lowered k)) ≡ true
  pub sum : float_z (lowered k) ⊕ base ≡ float (start + k)
  pub rest : float (start + k) ⊖ base ≡ float_z (lowered k)
  pub size : to_unsigned 64 (float (start + k)) ≡ start + k
  pub still : float (start + k) ⊖ nought ≡ float (start + k)
  pub down : float (start + (k + 1)) ⊖ one ≡ float (start + k)
  pub near_still : float_z (lowered k) ⊖ nought ≡ float_z (lowered k)
  pub near_down : float_z (lowered (k + 1)) ⊖ one ≡ float_z (lowered k)
  pub bits : bits_of (float (start + k)) ≡ first + k
  pub number : is_nan (float (start + k)) ≡ false
  pub flat : float_z (lowered k) ⊖ float_z (lowered k) ≡ nought
  pub gap : float_z (lowered (k + 1)) ⊖ float_z (lowered k) ≡ one
  pub slot : slot_of (lowered k) ≡ k % 8
  pub border : from_border (lowered k) ≡ k - 7
  pub only : (z : ℤ) → raised z ≡ k + 8 → z ≡ lowered k

made : (k : ℕ) → Computed k → ((z : ℤ) → raised z ≡ k + 8 → z ≡ lowered k) → Step k
made k c o =
    record {
      cut = c.0;
      height = c.1;
      less = c.2;
      ended = c.3;
      sum = c.4;
      rest = c.5;
      size = c.6;
      still = c.7;
      down = c.8;
      near_still = c.9;
      near_down = c.10;
      bits = c.11;
      number = c.12;
      flat = c.13;
      gap = c.14;
      slot = c.15;
      border = c.16;
      only = o;
    }

-- the first six, and those after
six : (P : ℕ → Type 0) → P 0 → P 1 → P 2 → P 3 → P 4 → P 5 → ((j : ℕ) → P (suc (suc (suc (suc (suc (suc j))))))) → (k : ℕ) → P k
six P a b c d e f r zero = a
six P a b c d e f r (suc zero) = b
six P a b c d e f r (suc (suc zero)) = c
six P a b c d e f r (suc (suc (suc zero))) = d
six P a b c d e f r (suc (suc (suc (suc zero)))) = e
six P a b c d e f r (suc (suc (suc (suc (suc zero))))) = f
six P a b c d e f r (suc (suc (suc (suc (suc (suc j)))))) = r j

abbrev Upto : ℕ → Type 0
Upto k = k ≤ 17 → Step k

pub step : (k : ℕ) → k ≤ 17 → Step k
unfolding of_bits of_int add sub to_bits to_signed to_unsigned is_nan slot_of from_border
step =
    six Upto
    (λ h. made 0 (refl, refl, refl, refl, refl, refl, refl, refl, refl, refl, refl, refl, refl, refl, refl, refl, refl) (at_neg 7 (omega arith)))
    (λ h. made 1 (refl, refl, refl, refl, refl, refl, refl, refl, refl, refl, refl, refl, refl, refl, refl, refl, refl) (at_neg 6 (omega arith)))
    (λ h. made 2 (refl, refl, refl, refl, refl, refl, refl, refl, refl, refl, refl, refl, refl, refl, refl, refl, refl) (at_neg 5 (omega arith)))
    (λ h. made 3 (refl, refl, refl, refl, refl, refl, refl, refl, refl, refl, refl, refl, refl, refl, refl, refl, refl) (at_neg 4 (omega arith)))
    (λ h. made 4 (refl, refl, refl, refl, refl, refl, refl, refl, refl, refl, refl, refl, refl, refl, refl, refl, refl) (at_neg 3 (omega arith)))
    (λ h. made 5 (refl, refl, refl, refl, refl, refl, refl, refl, refl, refl, refl, refl, refl, refl, refl, refl, refl) (at_neg 2 (omega arith)))
    (six (λ j. Upto (suc (suc (suc (suc (suc (suc (j))))))))
    (λ h. made 6 (refl, refl, refl, refl, refl, refl, refl, refl, refl, refl, refl, refl, refl, refl, refl, refl, refl) (at_neg 1 (omega arith)))
    (λ h. made 7 (refl, refl, refl, refl, refl, refl, refl, refl, refl, refl, refl, refl, refl, refl, refl, refl, refl) (at_neg 0 (omega arith)))
    (λ h. made 8 (refl, refl, refl, refl, refl, refl, refl, refl, refl, refl, refl, refl, refl, refl, refl, refl, refl) (at_pos 0))
    (λ h. made 9 (refl, refl, refl, refl, refl, refl, refl, refl, refl, refl, refl, refl, refl, refl, refl, refl, refl) (at_pos 1))
    (λ h. made 10 (refl, refl, refl, refl, refl, refl, refl, refl, refl, refl, refl, refl, refl, refl, refl, refl, refl) (at_pos 2))
    (λ h. made 11 (refl, refl, refl, refl, refl, refl, refl, refl, refl, refl, refl, refl, refl, refl, refl, refl, refl) (at_pos 3))
    (six (λ j. Upto (suc (suc (suc (suc (suc (suc (suc (suc (suc (suc (suc (suc (j))))))))))))))
    (λ h. made 12 (refl, refl, refl, refl, refl, refl, refl, refl, refl, refl, refl, refl, refl, refl, refl, refl, refl) (at_pos 4))
    (λ h. made 13 (refl, refl, refl, refl, refl, refl, refl, refl, refl, refl, refl, refl, refl, refl, refl, refl, refl) (at_pos 5))
    (λ h. made 14 (refl, refl, refl, refl, refl, refl, refl, refl, refl, refl, refl, refl, refl, refl, refl, refl, refl) (at_pos 6))
    (λ h. made 15 (refl, refl, refl, refl, refl, refl, refl, refl, refl, refl, refl, refl, refl, refl, refl, refl, refl) (at_pos 7))
    (λ h. made 16 (refl, refl, refl, refl, refl, refl, refl, refl, refl, refl, refl, refl, refl, refl, refl, refl, refl) (at_pos 8))
    (λ h. made 17 (refl, refl, refl, refl, refl, refl, refl, refl, refl, refl, refl, refl, refl, refl, refl, refl, refl) (at_pos 9))
    (λ j h. absurd (omega arith))))
